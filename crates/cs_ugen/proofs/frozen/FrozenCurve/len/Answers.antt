use Rattle.std.proofs.Common.{length, ap, arith}
use Rattle.cs_ugen.specs.Points.{curve_len}
use Rattle.cs_ugen.proofs.Curves.{is_len-bounds}
use Rattle.cs_ugen.proofs.frozen.FrozenCurve.len.Goals as goal

pub overflow_sub-result : goal.overflow_sub-result
overflow_sub-result c =
    let f = c.args.self.now in
    let b = is_len-bounds (curve_len f.curve.now) f.power in
    omega (arith, b.0, b.1)

pub returns-clause-value : goal.returns-clause-value
returns-clause-value c =
    let f = c.args.self.now in
    let b = is_len-bounds (curve_len f.curve.now) f.power in
    let long = ap (λ l. length l) f.curve_is in
    omega (arith, b.0, b.1, long)
