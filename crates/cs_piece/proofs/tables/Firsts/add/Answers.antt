use Rattle.std.proofs.Common.{◌≡◌, ◌<◌, ◌≤◌, ◌++◌, ◌∷◌, [], ◌∙◌, arith, refl, subst, sym}
use Rattle.std.specs.Vec.{with_item}
use Rattle.cs_piece.specs.declared.tables.Firsts.{Firsts}
use Rattle.cs_piece.specs.inner.Marked.{StandFor, given_of, numbers_end, times_at}
use Rattle.cs_piece.proofs.Giving.{any_default, stand_new, stand_same}
use Rattle.cs_piece.proofs.tables.Firsts.add.Goals.{in-Never+in_ok-push-in-Never, in_default}
use Rattle.cs_piece.specs.declared.tables.Times.TheVariants as times
use Rattle.cs_piece.proofs.tables.Firsts.add.Goals as goal

pub returns-clause-stand : goal.returns-clause-stand
returns-clause-stand c gs stand =
    let x = c.args.table in
    let old = c.args.self.now in
    let t = c.index.result.now in
    let u = c.match-index.times in
    let low : x.number < numbers_end = (let high : x.number ≤ 65535 = c.requires.right.number.1 in omega arith) in
    let is : t ≡ times_at old.times.items x.number =
    c.index.ensures ∙ any_default old.times.items x.number t times.Never (omega (arith, c.requires.long, low)) in
    elim c.match-index.branch [
      | in-Never+in_ok-push-in-Never w ↦ subst (λ (s : Firsts). StandFor (gs ++ given_of x ∷ [])
          (record { items = s.items; times = with_item s.times x.number u })) (sym w.self-is)
          (stand_new old (record { items = w.push.new.self; times = with_item old.times x.number u }) x gs t u stand
          c.requires.long low is refl w.in_ok-push-in-Never.ensures.items w.in-Never.is w.times-is)
      | in_default w ↦ subst (λ (s : Firsts). StandFor (gs ++ given_of x ∷ [])
          (record { items = s.items; times = with_item s.times x.number u })) (sym w.self-is)
          (stand_same old (record { items = old.items; times = with_item old.times x.number u }) x gs t u stand
          c.requires.long low is refl refl w.in_default.not-Never w.times-is)
    ]
