-- A quotient that is guessed with a product by the divisor's inverse.
use Rattle.std.proofs.Common.{◌≡◌, ℕ, ◌+◌, ◌-◌, ◌*◌, ◌/◌, ◌%◌, ◌^◌, ◌<◌, ◌≤◌, ℤ, pos, negsuc, ◌*ℤ◌, unsigned_abs, ◌-ℤ◌}
use Rattle.std.proofs.Common.{FitsSigned, of_z, to_z, w64, ap, sym, ◌∙◌, subst, arith}
use Rattle.std.proofs.lemmas.Int.{fits_signed_from_abs, ints, to_z-of_z, unsigned_abs-mul}
use Rattle.std.proofs.lemmas.Nat.{div-add-mod', mul-le}
use Rattle.std.proofs.Math.Nat.{mul-add, mul_assoc, mul_comm}
use Rattle.cs_base.specs.{Numbers.floor_div, inner.Inverses.IsInverse}

once_more : (k d : ℕ) → (k + 1) * d ≡ k * d + d
once_more k d =
    let parts : (k + 1) * d ≡ d * k + d * 1 = mul_comm (k + 1) d ∙ mul-add d k 1 in
    let same : d * k ≡ k * d = mul_comm d k in
    omega (arith, parts, same)

-- the inverse of a number, rounded up, exceeds the exact inverse by at most one unit
pub inverse_near : (size : ℕ) → (18446744073709551615 / size + 1) * size ≤ 18446744073709551616 + size
inverse_near size =
    let k : ℕ = 18446744073709551615 / size in
    let parts : k * size + 18446744073709551615 % size ≡ 18446744073709551615 =
    div-add-mod' 18446744073709551615 size in
    let more : (k + 1) * size ≡ k * size + size = once_more k size in
    omega (arith, parts, more)

pub inverse_fits : (size : ℕ) → 3 ≤ size → 18446744073709551615 / size + 1 < 9223372036854775808
inverse_fits size some =
    let k : ℕ = 18446744073709551615 / size in
    let parts : k * size + 18446744073709551615 % size ≡ 18446744073709551615 =
    div-add-mod' 18446744073709551615 size in
    let least : k * 3 ≤ k * size = mul-le k 3 k size (omega arith) some in
    omega (arith, parts, least)

-- a quotient rounded down, times the divisor, exceeds the number by at most the divisor in absolute value
floor_size : (z : ℤ) → unsigned_abs (floor_div z (pos 18446744073709551616)) * 18446744073709551616
    ≤ unsigned_abs z + 18446744073709551616
floor_size (pos a) = omega (arith, ints)
floor_size (negsuc a) = omega (arith, ints)

-- the guess times the divisor is only a little greater than the number in absolute value
pub guess_small : (n inverse value guess : ℤ) → unsigned_abs n ≤ 2 ^ 61 → unsigned_abs value < 2 ^ 48
    → IsInverse value inverse
    → guess ≡ floor_div (n *ℤ inverse) (pos 18446744073709551616) → unsigned_abs (guess *ℤ value) ≤ 2 ^ 61 + 2 ^ 49
guess_small n inverse value guess few low near is =
    let m : ℕ = unsigned_abs n in
    let v : ℕ = unsigned_abs inverse in
    let d : ℕ = unsigned_abs value in
    let g : ℕ = unsigned_abs guess in
    let size : g * 18446744073709551616 ≤ m * v + 18446744073709551616 =
    subst (λ z. unsigned_abs z * 18446744073709551616 ≤ m * v + 18446744073709551616) (sym is)
    (subst (λ k. unsigned_abs (floor_div (n *ℤ inverse) (pos 18446744073709551616)) * 18446744073709551616
    ≤ k + 18446744073709551616) (unsigned_abs-mul n inverse) (floor_size (n *ℤ inverse))) in
    let k : ℕ = g - 1 in
    let less : k * 18446744073709551616 ≤ m * v = omega (arith, size) in
    let times : k * 18446744073709551616 * d ≤ m * v * d =
    mul-le (k * 18446744073709551616) d (m * v) d less (omega arith) in
    let left : k * 18446744073709551616 * d ≡ k * d * 18446744073709551616 =
    mul_assoc k 18446744073709551616 d ∙ ap (λ x. k * x) (mul_comm 18446744073709551616 d)
    ∙ sym (mul_assoc k d 18446744073709551616) in
    let right : m * v * d ≡ m * (v * d) = mul_assoc m v d in
    let most : m * (v * d) ≤ 2 ^ 61 * (2 ^ 64 + 2 ^ 48) =
    mul-le m (v * d) (2 ^ 61) (2 ^ 64 + 2 ^ 48) (omega (arith, few)) (omega (arith, near, low)) in
    let part : k * d ≤ 2 ^ 61 + 2 ^ 47 = omega (arith, times, left, right, most) in
    let whole : g * d ≤ (k + 1) * d = mul-le g d (k + 1) d (omega arith) (omega arith) in
    let more : (k + 1) * d ≡ k * d + d = once_more k d in
    let size_of : unsigned_abs (guess *ℤ value) ≡ g * d = unsigned_abs-mul guess value in
    omega (arith, size_of, whole, more, part, low)

-- the remainder of a guess fits into 64 bits, and so does the product with which it is computed
module _ (n guess value : ℤ) (few : unsigned_abs n ≤ 2 ^ 61)
    (near : unsigned_abs (guess *ℤ value) ≤ 2 ^ 61 + 2 ^ 49) where
  pub rest_fits : FitsSigned w64 (n -ℤ (guess *ℤ value))
  rest_fits = fits_signed_from_abs w64 (n -ℤ (guess *ℤ value)) (omega (arith, ints, few, near))

  pub rest_is : FitsSigned w64 n → FitsSigned w64 guess → FitsSigned w64 value
      → to_z w64 (of_z w64 n) -ℤ to_z w64 (of_z w64 (to_z w64 (of_z w64 guess) *ℤ to_z w64 (of_z w64 value)))
      ≡ n -ℤ (guess *ℤ value)
  rest_is of_n of_guess of_value =
      let whole : to_z w64 (of_z w64 (guess *ℤ value)) ≡ guess *ℤ value =
      to_z-of_z w64 (guess *ℤ value) (fits_signed_from_abs w64 (guess *ℤ value) (omega (arith, near))) in
      (λ i. to_z-of_z w64 n of_n i
      -ℤ to_z w64 (of_z w64 (to_z-of_z w64 guess of_guess i *ℤ to_z-of_z w64 value of_value i)))
      ∙ ap (λ z. n -ℤ z) whole
