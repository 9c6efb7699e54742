use Rattle.std.proofs.Common.{◌∷◌, [], length, refl, ap, sym, ◌∙◌, subst}
use Rattle.cs_signal.specs.Operands.{Reaches, operand_at}
use Rattle.cs_signal.proofs.{Operands.reaches, Walks.HasRun_none, Walks.HasRun_step, Walks.HasRun_end}
use Rattle.cs_signal.proofs.stepwise.by_three.Goals as goal

pub loop-j-init : goal.loop-j-init
loop-j-init g c =
    HasRun_none g.S.Stepper.step
    (λ j. operand_at c.args.x.now j ∷ operand_at c.args.y.now j ∷ operand_at c.args.z.now j ∷ [])
    c.args.start (length c.args.out.now) c.args.out.now refl

pub value-requires : goal.value-requires
value-requires g c = subst (Reaches c.loop-j.j) (sym c.copied-x.ensures)
    (reaches (length c.args.out.now) c.loop-j.j c.args.x.now c.requires.x c.loop-j-test.true)

pub value-requires-in-loop-j : goal.value-requires-in-loop-j
value-requires-in-loop-j g c = subst (Reaches c.loop-j.j) (sym c.copied-y.ensures)
    (reaches (length c.args.out.now) c.loop-j.j c.args.y.now c.requires.y c.loop-j-test.true)

pub value-requires-in-loop-j-2 : goal.value-requires-in-loop-j-2
value-requires-in-loop-j-2 g c = subst (Reaches c.loop-j.j) (sym c.copied-z.ensures)
    (reaches (length c.args.out.now) c.loop-j.j c.args.z.now c.requires.z c.loop-j-test.true)

pub loop-j-preserved : goal.loop-j-preserved
loop-j-preserved g c =
    HasRun_step g.S.Stepper.step
    (λ j. operand_at c.args.x.now j ∷ operand_at c.args.y.now j ∷ operand_at c.args.z.now j ∷ [])
    c.args.start (length c.args.out.now) c.loop-j.j c.loop-j.unit c.tick.new.self c.loop-j.out c.tick.result
    c.loop-j.invariant c.loop-j-test.true (c.tick.ensures
    ∙ ap (λ z. g.S.Stepper.step c.loop-j.unit (z ∷ c.value-in-loop-j.result ∷ c.value-in-loop-j-2.result ∷ []))
    (c.value.ensures ∙ ap (λ o. operand_at o c.loop-j.j) c.copied-x.ensures) ∙ ap (λ z. g.S.Stepper.step c.loop-j.unit
    (operand_at c.args.x.now c.loop-j.j ∷ z ∷ c.value-in-loop-j-2.result ∷ []))
    (c.value-in-loop-j.ensures ∙ ap (λ o. operand_at o c.loop-j.j) c.copied-y.ensures)
    ∙ ap (λ z. g.S.Stepper.step c.loop-j.unit
    (operand_at c.args.x.now c.loop-j.j ∷ operand_at c.args.y.now c.loop-j.j ∷ z ∷ []))
    (c.value-in-loop-j-2.ensures ∙ ap (λ o. operand_at o c.loop-j.j) c.copied-z.ensures))

pub returns : goal.returns
returns g c =
    HasRun_end g.S.Stepper.step
    (λ j. operand_at c.args.x.now j ∷ operand_at c.args.y.now j ∷ operand_at c.args.z.now j ∷ [])
    c.args.start (length c.args.out.now) c.loop-j.j c.loop-j.unit c.loop-j.out c.loop-j.invariant c.loop-j-test.false
