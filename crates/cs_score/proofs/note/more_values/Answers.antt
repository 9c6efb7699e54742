use Rattle.std.proofs.Common.{◌≡◌, ◌-◌, length, drop, arith, sym, subst}
use Rattle.std.proofs.lemmas.List.{length-take}
use Rattle.cs_score.specs.inner.Values.{AreValues}
use Rattle.cs_score.proofs.Carried.{own_fault, own_values}
use Rattle.cs_score.proofs.note.more_values.Goals as goal

abbrev values_here : (c : goal.In_ok-over) → AreValues c.args.fields.now c.in_ok-over.field-0
values_here c =
    let count : length c.in_ok-own.own ≡ c.args.written - 3 =
    omega (
      arith,
      c.in_ok-own.ensures.len,
      c.rest-more.ensures.len,
      c.requires.within,
      c.saturating_sub.ensures,
      length-take c.saturating_sub.result c.rest-more.result.now,
    ) in
    subst (AreValues c.args.fields.now) (sym c.in_ok-over.ensures)
    (own_values c.args.written c.args.fields.now c.args.before.now c.in_ok-own.own c.requires
    (rw (c.saturating_sub.ensures, c.rest-more.ensures.value) at c.in_ok-own.ensures.value) count)

pub returns-in_err-own-clause-value : goal.returns-in_err-own-clause-value
returns-in_err-own-clause-value c =
    own_fault (c.args.written - 3) (drop 3 c.args.fields.now) _ _ c.from_residual.ensures.1
    (rw (c.saturating_sub.ensures, c.rest-more.ensures.value) at c.in_err-own.ensures.value)

pub returns-clause-value : goal.returns-clause-value
returns-clause-value c = (values_here c).0

pub returns-clause-values : goal.returns-clause-values
returns-clause-values c = values_here c
