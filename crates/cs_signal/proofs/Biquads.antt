-- A step of a biquad, computed from its sum.
use Rattle.std.proofs.Common.{◌≡◌, ℕ, ◌+◌, ◌<◌, ◌≤◌, ◌^◌, ℤ, pos, negsuc, ◌+ℤ◌, ◌-ℤ◌, ◌*ℤ◌, unsigned_abs, ap, ◌∙◌}
use Rattle.std.proofs.Common.{arith}
use Rattle.std.proofs.lemmas.Int.{ints}
use Rattle.cs_base.specs.Numbers.{IsRaw, floor_div, one}
use Rattle.cs_signal.proofs.Ramps.{product_within}
use Rattle.cs_signal.specs.Biquad.{BiquadState, biquad_step, inputs_by, ratio}
use Rattle.cs_signal.specs.inner.Short.{AreShort, AreSmall, IsShort, sum_of}
use Rattle.cs_signal.specs.declared.biquad.Coefficients.{Coefficients}

pub stepped : (by : Coefficients) (s t : BiquadState) (x z y sum : ℤ)
    → t ≡ record { x1 = x; x2 = s.x1; y1 = y; y2 = s.y1 } → y ≡ ratio sum by.a0 → sum ≡ sum_of by s x → x ≡ z
    → (t, y) ≡ biquad_step s (inputs_by z by)
stepped by s t x z y sum et ey es ex =
    let after : ℤ → BiquadState × ℤ = λ y. (record { x1 = x; x2 = s.x1; y1 = y; y2 = s.y1 }, y) in
    ap (λ t. (t, y)) et ∙ ap after (ey ∙ ap (λ n. ratio n by.a0) es) ∙ ap (λ z. biquad_step s (inputs_by z by)) ex

-- a short sum divided by 1 is in range
pub by_one_in_range : (z : ℤ) → unsigned_abs z < 2 ^ 61 → IsRaw (floor_div z one)
by_one_in_range (pos a) h = (omega (arith, ints, h), omega (arith, ints, h))
by_one_in_range (negsuc a) h = (omega (arith, ints, h), omega (arith, ints, h))

-- a sum and a difference of two numbers are within the sum of their bounds
sum_within : (x y : ℤ) (m n : ℕ) → unsigned_abs x ≤ m → unsigned_abs y ≤ n → unsigned_abs (x +ℤ y) ≤ m + n
sum_within x y m n p q = omega (arith, ints, p, q)

less_within : (x y : ℤ) (m n : ℕ) → unsigned_abs x ≤ m → unsigned_abs y ≤ n → unsigned_abs (x -ℤ y) ≤ m + n
less_within x y m n p q = omega (arith, ints, p, q)

-- the sum of three numbers minus two numbers is within the sum of their bounds
sum_less_within : (p q r s t : ℤ) (m : ℕ) → unsigned_abs p ≤ m → unsigned_abs q ≤ m → unsigned_abs r ≤ m
    → unsigned_abs s ≤ m → unsigned_abs t ≤ m → unsigned_abs (((p +ℤ q) +ℤ r) -ℤ (s +ℤ t)) ≤ ((m + m) + m) + (m + m)
sum_less_within p q r s t m hp hq hr hs ht =
    less_within ((p +ℤ q) +ℤ r) (s +ℤ t) ((m + m) + m) (m + m)
    (sum_within (p +ℤ q) r (m + m) m (sum_within p q m m hp hq) hr) (sum_within s t m m hs ht)

-- small coefficients and short signals have a sum below 2^61
pub short_sum : (by : Coefficients) (s : BiquadState) (x : ℤ) → AreSmall by → IsShort x → AreShort s
    → unsigned_abs (sum_of by s x) < 2 ^ 61
short_sum by s x small input short =
    let all : unsigned_abs (sum_of by s x) ≤ 1441151880758558720 =
    sum_less_within (by.b0 *ℤ x) (by.b1 *ℤ s.x1) (by.b2 *ℤ s.x2) (by.a1 *ℤ s.y1) (by.a2 *ℤ s.y2) 288230376151711744
    (product_within by.b0 x 134217728 2147483648 small.b0 input)
    (product_within by.b1 s.x1 134217728 2147483648 small.b1 short.x1)
    (product_within by.b2 s.x2 134217728 2147483648 small.b2 short.x2)
    (product_within by.a1 s.y1 134217728 2147483648 small.a1 short.y1)
    (product_within by.a2 s.y2 134217728 2147483648 small.a2 short.y2) in
    omega (arith, all)
