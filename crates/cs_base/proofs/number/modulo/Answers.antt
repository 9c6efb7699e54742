use Rattle.std.proofs.Common.{◌≡◌, ◌∙◌, ℤ, ◌<ℤ◌, pos, negsuc, of_z, to_z, false, sym, arith, rules, w64}
use Rattle.std.proofs.lemmas.Int.{ints, to_z-of_z}
use Rattle.std.specs.{Int.RustNames.FitsSigned, Int.int_rem_euclid, Ordering.int_eq}
use Rattle.cs_base.specs.Numbers.{remainder_of}
use Rattle.cs_base.proofs.Arithmetic.{left_over, left_over_flipped}
use Rattle.cs_base.proofs.number.modulo.Goals as goal

by_above : (x y : ℤ) → pos 0 <ℤ y → int_rem_euclid x y ≡ remainder_of x y
by_above x (pos n) h = let other : int_eq (pos n) (pos 0) ≡ false = grind (arith, ints) in
    rw other (sym (left_over x n (omega (arith, ints))))
by_above x (negsuc n) h = absurd (omega (arith, ints))

pub returns-else-y-gt0 : goal.returns-else-y-gt0
returns-else-y-gt0 c =
    let below : c.args.y <ℤ pos 0 = grind (arith, ints) in
    let h = left_over_flipped c.args.x c.args.y below in
    let x = c.negated.result in
    let y = c.negated-else-y-gt0.result in
    let r = c.rem_euclid-else-y-gt0.result in
    let f : FitsSigned w64 c.args.x = search rules in
    grind (arith, ints, to_z-of_z, h)

pub returns-then-y-gt0 : goal.returns-then-y-gt0
returns-then-y-gt0 c =
    let x : to_z w64 (of_z w64 c.args.x) ≡ c.args.x = omega (arith, ints) in
    let y : to_z w64 (of_z w64 c.args.y) ≡ c.args.y = omega (arith, ints) in
    to_z-of_z w64 c.rem_euclid.result (record { sfits = c.rem_euclid.type_inv }) ∙ c.rem_euclid.ensures.value
    ∙ (λ i. int_rem_euclid (x i) (y i)) ∙ by_above c.args.x c.args.y (omega (arith, ints))

pub rem_euclid-requires : goal.rem_euclid-requires
rem_euclid-requires c = record { nonzero = omega (arith, ints); no_overflow = λ _ e. omega (arith, ints, e) }

pub negated-requires : goal.negated-requires
negated-requires c = omega (arith, ints)

pub negated-requires-else-y-gt0 : goal.negated-requires-else-y-gt0
negated-requires-else-y-gt0 c = omega (arith, ints)
