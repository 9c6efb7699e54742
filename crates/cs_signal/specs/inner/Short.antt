-- The sum of a filter's step, and the conditions under which it fits into 64 bits: small coefficients and
-- short signals.
use Rattle.std.specs.Prelude.{◌≤◌, ◌^◌, ℤ, ◌+ℤ◌, ◌-ℤ◌, ◌*ℤ◌, unsigned_abs}
use Rattle.cs_signal.specs.{Biquad.BiquadState, declared.biquad.Coefficients.Coefficients}

-- the sum that a step divides, from its coefficients, the filter's state, and the input
abbrev pub sum_of : Coefficients → BiquadState → ℤ → ℤ
sum_of by s x = ((by.b0 *ℤ x +ℤ by.b1 *ℤ s.x1) +ℤ by.b2 *ℤ s.x2) -ℤ (by.a1 *ℤ s.y1 +ℤ by.a2 *ℤ s.y2)

-- a coefficient whose absolute value is at most 2,048
abbrev pub IsSmall : ℤ → Type 0
IsSmall c = unsigned_abs c ≤ 2 ^ 27

-- a signal whose absolute value is at most 32,768
abbrev pub IsShort : ℤ → Type 0
IsShort x = unsigned_abs x ≤ 2 ^ 31

-- all coefficients that multiply signals are small
pub record AreSmall (by : Coefficients) : Type 0 where
  pub b0 : IsSmall by.b0
  pub b1 : IsSmall by.b1
  pub b2 : IsSmall by.b2
  pub a1 : IsSmall by.a1
  pub a2 : IsSmall by.a2

-- all signals in the filter's state are short
pub record AreShort (s : BiquadState) : Type 0 where
  pub x1 : IsShort s.x1
  pub x2 : IsShort s.x2
  pub y1 : IsShort s.y1
  pub y2 : IsShort s.y2
