use Rattle.std.proofs.Common.{◌≡◌, length, take, ap, sym, ◌∙◌, subst, arith}
use Rattle.cs_gen.specs.Tables.{curve_of}
use Rattle.cs_ugen.specs.Points.{AreShort}
use Rattle.cs_ugen.proofs.Shorts.{points_fit, points_kept}
use Rattle.cs_ugen.proofs.frozen.FrozenTable.new.Goals as goal

pub returns : goal.returns
returns c =
    let points = c.args.points in
    let curve : c.in_ok-curve.curve.items ≡ curve_of points = c.in_ok-curve.ensures ∙ ap curve_of c.into_vec.ensures in
    ap (λ n. take n c.in_ok-curve.curve.items) c.len-size.ensures ∙ ap (take (length points)) curve ∙ points_kept points

pub invariant_of-result : goal.invariant_of-result
invariant_of-result c =
    let points = c.args.points in
    let curve : c.in_ok-curve.curve.items ≡ curve_of points = c.in_ok-curve.ensures ∙ ap curve_of c.into_vec.ensures in
    let kept : take c.len-size.result c.in_ok-curve.curve.items ≡ points =
    ap (λ n. take n c.in_ok-curve.curve.items) c.len-size.ensures ∙ ap (take (length points)) curve
    ∙ points_kept points in
    let fit = points_fit points in
    let long = ap (λ l. length l) curve in (
      omega (arith, fit, long, c.len-size.ensures),
      curve ∙ ap curve_of (sym kept),
      λ all. subst AreShort c.deref.ensures.value (c.are_short-short.ensures all),
    )
