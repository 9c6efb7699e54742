use Rattle.std.proofs.Common.{length, ap, sym, ◌∙◌}
use Rattle.cs_signal.specs.{Biquad.biquad_step, Operands.inputs_at, Steps.run}
use Rattle.cs_signal.specs.declared.operand.Operand.TheVariants.{Held, Row}
use Rattle.cs_signal.proofs.Operands.{seven}
use Rattle.cs_signal.proofs.biquad.BiquadGenerator.render.Goals as goal

pub returns-in-Row-Held-Held-Held-Held-Held-Held : goal.returns-in-Row-Held-Held-Held-Held-Held-Held
returns-in-Row-Held-Held-Held-Held-Held-Held c =
    let here = c.in-Row-Held-Held-Held-Held-Held-Held in
    c.held.ensures ∙ ap (λ at. run biquad_step at c.args.self.now 0 (length c.args.out.now))
    (sym (ap inputs_at (seven c.args.inputs.now
    (Row here.row) (Held here.b0) (Held here.b1) (Held here.b2) (Held here.a0) (Held here.a1) (Held here.a2)
    c.x-item.result c.b0-item.result c.b1-item.result c.b2-item.result c.a0-item.result c.a1-item.result
    c.a2-item.result
    c.requires.count (sym here.is-0 ∙ c.x-item.is) (sym here.is-1 ∙ c.b0-item.is) (sym here.is-2 ∙ c.b1-item.is)
    (sym here.is-3 ∙ c.b2-item.is) (sym here.is-4 ∙ c.a0-item.is) (sym here.is-5 ∙ c.a1-item.is)
    (sym here.is-6 ∙ c.a2-item.is))))
