-- Quotients that are rounded down, part by part.
use Rattle.std.proofs.Common.{◌≡◌, ℕ, zero, suc, ◌+◌, ◌-◌, ◌*◌, ◌/◌, ◌%◌, ◌<◌, ℤ, pos, negsuc, ◌+ℤ◌, ◌*ℤ◌, ap, sym, ◌∙◌}
use Rattle.std.proofs.Common.{arith}
use Rattle.std.specs.Int.{int_div_euclid, int_rem_euclid}
use Rattle.std.proofs.lemmas.Int.{ints}
use Rattle.cs_base.specs.Numbers.{floor_div}

-- a number is 65,536 times its quotient plus a remainder
record Split (z : ℤ) : Type 0 where
  part : ℕ
  small : part < 65536
  is : z ≡ (int_div_euclid z (pos 65536) *ℤ pos 65536) +ℤ pos part

split : (z : ℤ) → Split z
split (pos a) = record { part = a % 65536; small = omega arith; is = omega (arith, ints) }
split (negsuc a) = record { part = 65535 - a % 65536; small = omega arith; is = omega (arith, ints) }

split_rem : (z : ℤ) (r : ℕ) → r < 65536 → z ≡ (int_div_euclid z (pos 65536) *ℤ pos 65536) +ℤ pos r
    → int_rem_euclid z (pos 65536) ≡ pos r
split_rem (pos a) r s e = omega (arith, ints)
split_rem (negsuc a) r s e = omega (arith, ints)

-- only the quotient leaves a remainder below 65,536
pub floor_div_is : (z q : ℤ) (r : ℕ) → r < 65536 → z ≡ (q *ℤ pos 65536) +ℤ pos r → floor_div z (pos 65536) ≡ q
floor_div_is (pos a) q r s e = omega (arith, ints)
floor_div_is (negsuc a) q r s e = omega (arith, ints)

times-suc : (x : ℤ) (f : ℕ) → x *ℤ pos (suc f) ≡ (x *ℤ pos f) +ℤ x
times-suc (pos a) f = omega (arith, ints)
times-suc (negsuc a) f = omega (arith, ints)

times-zero : (x : ℤ) → x *ℤ pos 0 ≡ pos 0
times-zero (pos a) = omega (arith, ints)
times-zero (negsuc a) = omega (arith, ints)

sum-times : (x y : ℤ) (f : ℕ) → (x +ℤ y) *ℤ pos f ≡ (x *ℤ pos f) +ℤ (y *ℤ pos f)
sum-times x y zero = let a = times-zero x in let b = times-zero y in let e =
    times-zero (x +ℤ y) in omega (arith, ints, a, b, e)
sum-times x y (suc f) =
    let a = times-suc x f in let b = times-suc y f in let e = times-suc (x +ℤ y) f in let ih = sum-times x y f in
    omega (arith, ints, a, b, e, ih)

times-swap : (x : ℤ) (f : ℕ) → (x *ℤ pos 65536) *ℤ pos f ≡ (x *ℤ pos f) *ℤ pos 65536
times-swap x zero = let a = times-zero x in let b = times-zero (x *ℤ pos 65536) in omega (arith, ints, a, b)
times-swap x (suc f) =
    let a = times-suc x f in let b = times-suc (x *ℤ pos 65536) f in let ih = times-swap x f in
    omega (arith, ints, a, b, ih)

whole : (h : ℤ) (l f q r : ℕ) → l * f ≡ q * 65536 + r →
    (((h *ℤ pos 65536) +ℤ pos l) *ℤ pos f) ≡ (((h *ℤ pos f) +ℤ pos q) *ℤ pos 65536) +ℤ pos r
whole h l f q r e =
    let a = sum-times (h *ℤ pos 65536) (pos l) f in
    let b = times-swap h f in
    omega (arith, ints, e, a, b)

-- a part of a difference is the sum of the parts of its upper bits and of its lower bits
pub by_parts : (d : ℤ) (f : ℕ) → floor_div (d *ℤ pos f) (pos 65536)
    ≡ (floor_div d (pos 65536) *ℤ pos f) +ℤ floor_div (int_rem_euclid d (pos 65536) *ℤ pos f) (pos 65536)
by_parts d f =
    let s = split d in
    let h : ℤ = int_div_euclid d (pos 65536) in
    let l : ℕ = s.part in
    let q : ℕ = l * f / 65536 in
    let r : ℕ = l * f % 65536 in
    let parts : l * f ≡ q * 65536 + r = omega arith in
    let all : d *ℤ pos f ≡ (((h *ℤ pos f) +ℤ pos q) *ℤ pos 65536) +ℤ pos r =
    ap (λ z. z *ℤ pos f) s.is ∙ whole h l f q r parts in
    let low : int_rem_euclid d (pos 65536) ≡ pos l = split_rem d l s.small s.is in
    floor_div_is (d *ℤ pos f) ((h *ℤ pos f) +ℤ pos q) r (omega arith) all
    ∙ ap (λ z. (h *ℤ pos f) +ℤ z) (ap (λ z. floor_div (z *ℤ pos f) (pos 65536)) (sym low))
