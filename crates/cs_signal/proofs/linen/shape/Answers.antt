use Rattle.std.proofs.Common.{ℕ, length, pos, refl, ap, sym, ◌∙◌, subst, arith}
use Rattle.std.proofs.lemmas.List.{get_or-set_other}
use Rattle.cs_base.specs.Numbers.{product_of}
use Rattle.cs_signal.specs.Operands.{Reaches, argument, operand_at}
use Rattle.cs_signal.proofs.Levels.{HasFilled_none, HasFilled_more, HasFilled_all}
use Rattle.cs_signal.proofs.{Operands.reaches, Walks.read}
use Rattle.cs_signal.proofs.linen.shape.Goals as goal

pub loop-j-init : goal.loop-j-init
loop-j-init c = (
  HasFilled_none (λ (j : ℕ). product_of (operand_at c.args.x.now j) (argument c.args.out.now j)) (length c.args.out.now)
      c.args.out.now refl,
  λ i h. refl,
)

pub value-requires : goal.value-requires
value-requires c = subst (Reaches c.loop-j.j) (sym c.copied-x.ensures)
    (reaches (length c.args.out.now) c.loop-j.j c.args.x.now c.requires c.loop-j-test.true)

pub loop-j-preserved : goal.loop-j-preserved
loop-j-preserved c =
    let so_far = c.loop-j.invariant in
    let j : ℕ = c.loop-j.j in
    let inside = c.loop-j-test.true in
    let long = so_far.0.long in
    let was = read c.loop-j.out j c.index-out-j.result c.index-out-j.is (omega arith) ∙ so_far.1 j (omega arith) in (
      HasFilled_more (λ (j : ℕ). product_of (operand_at c.args.x.now j) (argument c.args.out.now j))
          (length c.args.out.now) j c.loop-j.out c.product.result so_far.0 inside
          (c.product.ensures ∙ ap (λ z. product_of z c.index-out-j.result)
          (c.value.ensures ∙ ap (λ o. operand_at o j) c.copied-x.ensures)
          ∙ ap (product_of (operand_at c.args.x.now j)) was),
      λ i h. get_or-set_other c.loop-j.out j i c.product.result (pos 0) (λ e. omega arith) ∙ so_far.1 i (omega arith),
    )

pub returns : goal.returns
returns c =
    HasFilled_all (λ (j : ℕ). product_of (operand_at c.args.x.now j) (argument c.args.out.now j))
    (length c.args.out.now) c.loop-j.j c.loop-j.out c.loop-j.invariant.0 c.loop-j-test.false c.loop-j.auto.j-end
