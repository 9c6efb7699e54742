use Rattle.std.proofs.Common.{◌+◌, length, ap, sym, ◌∙◌, arith}
use Rattle.cs_signal.specs.{Line.line_step, Operands.inputs_at, Steps.run}
use Rattle.cs_signal.proofs.Ramps.{line_ramp}
use Rattle.cs_signal.proofs.line.LineUnitGenerator.render.Goals as goal

pub returns-then-count-self : goal.returns-then-count-self
returns-then-count-self c =
    let room = c.if-count-self.true in
    let low = c.self.invariant in
    let s = c.self.inside in
    let at = inputs_at c.args.inputs.now in
    ap (λ o. (record { from = s.from; to = s.to; way = s.way; number = s.number + length c.args.out.now }, o))
    c.ramp.ensures
    ∙ sym (line_ramp at (record { from = s.from; to = s.to; way = s.way; number = s.number }) 0
    (length c.args.out.now) (omega arith)) ∙ ap (λ t. run line_step at t 0 (length c.args.out.now)) c.self.view_is
