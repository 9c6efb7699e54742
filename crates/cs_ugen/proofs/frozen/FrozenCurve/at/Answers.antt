use Rattle.std.proofs.Common.{length, ap, sym, ◌∙◌, arith}
use Rattle.cs_signal.proofs.Walks.{read}
use Rattle.cs_signal.specs.Operands.{argument}
use Rattle.cs_ugen.specs.Points.{curve_len}
use Rattle.cs_ugen.proofs.Curves.{is_len-bounds}
use Rattle.cs_ugen.proofs.frozen.FrozenCurve.at.Goals as goal

pub bounds-self-place : goal.bounds-self-place
bounds-self-place c =
    let f = c.args.self.now in
    let b = is_len-bounds (curve_len f.curve.now) f.power in
    let long = ap (λ l. length l) f.curve_is in
    let most = c.requires in
    omega (arith, b.0, most, long)

pub returns-clause-value : goal.returns-clause-value
returns-clause-value c =
    let f = c.args.self.now in
    let b = is_len-bounds (curve_len f.curve.now) f.power in
    let long = ap (λ l. length l) f.curve_is in
    let most = c.requires in
    let point = c.index-self-place in
    sym point.is ∙ read f.curve.now c.args.place point.result point.is (omega (arith, b.0, most, long))
    ∙ ap (λ l. argument l c.args.place) f.curve_is
