use Rattle.std.proofs.Common.{◌≡◌, ◌∙◌, ap, arith, length, refl, sym}
use Rattle.cs_ir.specs.{Flat.flat, Flat.moved_ops, Routines.library_in, Validity.fine_from}
use Rattle.cs_ir.proofs.Twice.{whole_ops}
use Rattle.cs_ir.proofs.op.Code.check.Goals as goal

pub returns-then-are_fine : goal.returns-then-are_fine
returns-then-are_fine c =
    let self = c.args.self in
    let is : flat (library_in c.parts.result.0.now) c.parts.result.1.now ≡ self.ops = c.parts.ensures.ops in
    let long = ap length is in
    let same = c.are_fine.ensures (length self.ops) 0 (omega (arith, long))
    ∙ (λ i. fine_from self.counts (length self.ops) 0 (moved_ops (c.whole.ensures i) 0 (is i)))
    ∙ ap (fine_from self.counts (length self.ops) 0) (whole_ops self.ops) in
    record { ok = refl; valid = sym same ∙ c.if-are_fine.true; err = tt; invalid = tt }

pub returns-else-are_fine : goal.returns-else-are_fine
returns-else-are_fine c =
    let self = c.args.self in
    let is : flat (library_in c.parts.result.0.now) c.parts.result.1.now ≡ self.ops = c.parts.ensures.ops in
    let long = ap length is in
    let same = c.are_fine.ensures (length self.ops) 0 (omega (arith, long))
    ∙ (λ i. fine_from self.counts (length self.ops) 0 (moved_ops (c.whole.ensures i) 0 (is i)))
    ∙ ap (fine_from self.counts (length self.ops) 0) (whole_ops self.ops) in
    record { ok = tt; valid = tt; err = refl; invalid = sym same ∙ c.if-are_fine.false }

pub invariant_of-result : goal.invariant_of-result
invariant_of-result c =
    let self = c.args.self in
    let is : flat (library_in c.parts.result.0.now) c.parts.result.1.now ≡ self.ops = c.parts.ensures.ops in
    let long = ap length is in
    let same = c.are_fine.ensures (length self.ops) 0 (omega (arith, long))
    ∙ (λ i. fine_from self.counts (length self.ops) 0 (moved_ops (c.whole.ensures i) 0 (is i)))
    ∙ ap (fine_from self.counts (length self.ops) 0) (whole_ops self.ops) in
    record { valid = sym same ∙ c.if-are_fine.true }
