use Rattle.std.proofs.lemmas.{Grind.common_steps, List.get_or_read}
use Rattle.std.proofs.Common.{◌≡◌, ◌<◌, ◌+◌, ◌-◌, ℕ, arith, get_or, length, subst, sym, take}
use Rattle.std.specs.Prelude.{slice_set}
use Rattle.cs_row.specs.Cuts.{IsCut}
use Rattle.cs_row.proofs.Cutting.{next_begins, next_joins, some_cuts}
use Rattle.cs_row.proofs.cut.take_note.Goals as goal

pub returns-then-go_together-clause-cut : goal.returns-then-go_together-clause-cut
returns-then-go_together-clause-cut g c =
    let M = g.J.Job.means in
    let notes = c.args.notes.now in
    let cuts = c.args.cuts.now.items in
    let n : ℕ = c.len-rows.result in
    let filled = some_cuts M c.args.most notes c.args.at cuts c.requires.within c.requires.cut c.if-at-gt0.true in
    let many : n ≡ length cuts = omega (arith, c.len-rows.ensures) in
    let low : n - 1 < length cuts = omega (arith, many, filled) in
    let looked : c.index.result.now ≡ get_or cuts (n - 1) 0 =
    get_or_read cuts (n - 1) c.index.result.now low c.index.ensures 0 in
    let count : c.index_mut.result.now ≡ get_or cuts (n - 1) 0 =
    get_or_read cuts (n - 1) c.index_mut.result.now low c.index_mut.ensures.value 0 in
    let both = c.go_together.ensures c.if-go_together.true in
    subst (λ k. IsCut M c.args.most (take (c.args.at + 1) notes) (slice_set cuts (n - 1) (k + 1))) (sym count)
    (next_joins M c.args.most notes c.args.at c.index-notes-at-then-index-most.result cuts c.requires.within
    c.index-notes-at-then-index-most.is c.requires.valid c.requires.cut c.index-notes-at.result c.index-notes-at.is
    c.if-at-gt0.true c.requires.over n many (omega (arith, looked, c.if-index-most.true)) both.0 both.1)

pub returns-else-at-gt0-clause-cut : goal.returns-else-at-gt0-clause-cut
returns-else-at-gt0-clause-cut g c = grind (arith, common_steps, next_begins)
