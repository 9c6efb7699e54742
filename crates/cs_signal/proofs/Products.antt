-- Integers of a machine's width: numbers that fit are unchanged, and so is their product.
use mir.Syntax.{Width}
use mir.Val.{hbits}
use Rattle.std.proofs.Common.{◌≡◌, ℕ, ◌+◌, ◌*◌, ◌<◌, ◌≤◌, ◌^◌, ℤ, ◌*ℤ◌, FitsSigned, unsigned_abs, to_z, of_z}
use Rattle.std.proofs.Common.{ap, sym, ◌∙◌, subst, arith}
use Rattle.std.proofs.lemmas.Int.{fits_signed_from_abs, fits_signed_mul, ints, to_z-of_z}
use Rattle.cs_base.specs.Numbers.{IsRaw}
use Rattle.cs_signal.proofs.Ramps.{product_within}

pub same : (w : Width) (z : ℤ) (k : ℕ) → unsigned_abs z ≤ k → k < 2 ^ hbits w → to_z w (of_z w z) ≡ z
same w z k h below = to_z-of_z w z (fits_signed_from_abs w z (omega (arith, h, below)))

pub within : (w : Width) (z : ℤ) (m n : ℕ) → unsigned_abs z ≤ m → m < 2 ^ hbits w → m < n
    → unsigned_abs (to_z w (of_z w z)) < n
within w z m n h fits below = let e = ap unsigned_abs (same w z m h fits) in omega (arith, e, h, below)

-- a sum or a difference is within the sum of the bounds of its two numbers
pub both_within : (w : Width) (s a b : ℤ) (m n : ℕ)
    → unsigned_abs s ≤ unsigned_abs (to_z w (of_z w a)) + unsigned_abs (to_z w (of_z w b)) → unsigned_abs a ≤ m
    → unsigned_abs b ≤ n → m < 2 ^ hbits w → n < 2 ^ hbits w → unsigned_abs s ≤ m + n
both_within w s a b m n h p q fm fn =
    let x = ap unsigned_abs (same w a m p fm) in
    let y = ap unsigned_abs (same w b n q fn) in
    omega (arith, h, p, q, x, y)

-- the machine numbers a and b represent x and y, whose product fits and is within k
pub record IsProduct (w : Width) (a b x y : ℤ) (k : ℕ) : Type 0 where
  pub fits : FitsSigned w (a *ℤ b)
  pub value : to_z w (of_z w (a *ℤ b)) ≡ x *ℤ y
  pub bounded : unsigned_abs (to_z w (of_z w (a *ℤ b))) ≤ k

pub product : (w : Width) (a b x y : ℤ) (m n : ℕ) → a ≡ x → b ≡ y → unsigned_abs x ≤ m → unsigned_abs y ≤ n
    → m * n < 2 ^ hbits w → IsProduct w a b x y (m * n)
product w a b x y m n ea eb p q few =
    let fits : FitsSigned w (x *ℤ y) = fits_signed_mul w x y m n p q few in
    let is : a *ℤ b ≡ x *ℤ y = λ i. ea i *ℤ eb i in
    let value : to_z w (of_z w (a *ℤ b)) ≡ x *ℤ y = ap (λ z. to_z w (of_z w z)) is ∙ to_z-of_z w (x *ℤ y) fits in
    record {
      fits = subst (FitsSigned w) (sym is) fits;
      value = value;
      bounded = subst (λ z. unsigned_abs z ≤ m * n) (sym value) (product_within x y m n p q);
    }

-- the absolute value of a number in range is at most 2^47
pub raw_within : (z : ℤ) → IsRaw z → unsigned_abs z ≤ 140737488355328
raw_within z h = omega (arith, ints, h.0, h.1)
