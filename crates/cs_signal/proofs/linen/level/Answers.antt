use Rattle.std.proofs.Common.{ℕ, length, refl, ap, sym, ◌∙◌, subst}
use Rattle.cs_base.specs.Numbers.{one, product_of}
use Rattle.cs_signal.specs.Operands.{Reaches, operand_at}
use Rattle.cs_signal.proofs.{Levels.HasFilled_none, Levels.HasFilled_more, Levels.HasFilled_all, Operands.reaches}
use Rattle.cs_signal.proofs.linen.level.Goals as goal

pub loop-j-init : goal.loop-j-init
loop-j-init c = HasFilled_none (λ (j : ℕ). product_of (operand_at c.args.x.now j) one) (length c.args.out.now)
    c.args.out.now refl

pub value-requires : goal.value-requires
value-requires c = subst (Reaches c.loop-j.j) (sym c.copied-x.ensures)
    (reaches (length c.args.out.now) c.loop-j.j c.args.x.now c.requires c.loop-j-test.true)

pub loop-j-preserved : goal.loop-j-preserved
loop-j-preserved c =
    HasFilled_more (λ (j : ℕ). product_of (operand_at c.args.x.now j) one) (length c.args.out.now) c.loop-j.j
    c.loop-j.out c.by_one.result c.loop-j.invariant c.loop-j-test.true (c.by_one.ensures ∙ ap (λ z. product_of z one)
    (c.value.ensures ∙ ap (λ o. operand_at o c.loop-j.j) c.copied-x.ensures))

pub returns : goal.returns
returns c =
    HasFilled_all (λ (j : ℕ). product_of (operand_at c.args.x.now j) one) (length c.args.out.now) c.loop-j.j
    c.loop-j.out c.loop-j.invariant c.loop-j-test.false c.loop-j.auto.j-end
