use Rattle.std.proofs.Common.{arith, subst, sym}
use Rattle.cs_rwset.specs.inner.Runs.{AreInOrder, Finds}
use Rattle.cs_rwset.proofs.Spans.{elsewhere, one_more, unplaced}
use Rattle.cs_rwset.proofs.runs.find_places.Goals as goal

pub loop-number-init : goal.loop-number-init
loop-number-init c = record {
  within = omega (arith, c.first_place-begin.ensures.within);
  each = λ n l. absurd (omega (arith, l));
}

pub loop-number-preserved : goal.loop-number-preserved
loop-number-preserved c =
    one_more c.args.layout.now c.args.space c.first_place-begin.result c.loop-number.number c.in_ok-place.place
    c.zak_place.result c.zak_place.ensures c.loop-number.invariant c.in_ok-place.ensures.found c.if-place-begin.false

pub returns-in_err-place : goal.returns-in_err-place
returns-in_err-place c =
    let areas = c.args.layout.now in
    subst (Finds (AreInOrder areas c.args.space c.args.count)) (sym c.from_residual.ensures) (
      tt,
      unplaced areas c.args.space c.args.count c.loop-number.number c.zak_place.result c.zak_place.ensures
          c.loop-number-test.true c.in_err-place.ensures.none,
    )

pub returns-then-place-begin : goal.returns-then-place-begin
returns-then-place-begin c =
    let areas = c.args.layout.now in (
      tt,
      elsewhere areas c.args.space c.args.count c.loop-number.number c.zak_place.result c.zak_place.ensures
          c.loop-number-test.true c.requires c.first_place-begin.result c.in_ok-place.place
          c.first_place-begin.ensures.first c.in_ok-place.ensures.found c.if-place-begin.true,
    )
