use Rattle.std.proofs.Common.{arith}
use Rattle.cs_ugen.specs.Points.{curve_len}
use Rattle.cs_ugen.proofs.Curves.{is_len-bounds}
use Rattle.cs_ugen.proofs.curve.curve_len.Goals as goal

pub returns-clause-least : goal.returns-clause-least
returns-clause-least g c =
    let is = c.len.ensures.value in
    let bounds = is_len-bounds (curve_len (g.C.Curve.points c.args.curve.now)) c.len.ensures.curve.power in
    let low = bounds.0 in omega (arith, is, low)

pub returns-clause-most : goal.returns-clause-most
returns-clause-most g c =
    let is = c.len.ensures.value in
    let bounds = is_len-bounds (curve_len (g.C.Curve.points c.args.curve.now)) c.len.ensures.curve.power in
    let high = bounds.1 in omega (arith, is, high)
