use Rattle.std.proofs.Common.{◌∙◌, if◌then◌else◌, sym, ap}
use Rattle.cs_base.specs.Rates.{at_rate}
use Rattle.cs_typing.specs.{inner.Held.locals_of, inner.Routines.counted, inner.Routines.has_local}
use Rattle.cs_typing.specs.inner.Routines.{with_local}
use Rattle.cs_typing.proofs.Numbered.{put_in}
use Rattle.cs_typing.proofs.known.Scope.give.Goals as goal

pub returns : goal.returns
returns c =
    let s = c.args.self.now in
    let l = locals_of s in
    let x = c.args.name.now in
    let rate = c.name_rate-rate.ensures in
    put_in s.numbers c.insert.new.self x c.of-number.result s.counts c.in_ok-counts.counts
    (sym c.has.ensures ∙ c.if-has.false) c.in_ok-insert.ensures.updates
    (c.of-number.ensures ∙ ap (at_rate s.counts) rate) (c.in_ok-counts.ensures ∙ ap (λ r. counted r s.counts) rate)
    ∙ sym (ap (λ b. if b then l else (if has_local l x then l else with_local l x))
    (sym c.is_global.ensures ∙ c.if-is_global.false))
