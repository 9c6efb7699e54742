-- biquad: a filter with two zeros and two poles, computed with integers.
use Rattle.std.specs.Prelude.{◌≡◌, List, [], ◌∷◌, reverse, ℤ, pos, ◌+ℤ◌, ◌-ℤ◌, ◌*ℤ◌, if◌then◌else◌}
use Rattle.std.specs.Ordering.{int_eq}
use Rattle.cs_base.specs.{Numbers.clamp, Numbers.floor_div, Numbers.quotient_by_zero, declared.resource.Rate.Rate}
use Rattle.cs_signal.specs.{History.signal, Operands.argument, Pace.Pace, declared.biquad.Coefficients.Coefficients}

-- n / d rounded down and clamped; division by 0 follows the rule of the language's `/`
abbrev pub ratio : ℤ → ℤ → ℤ
ratio n d = if int_eq d (pos 0) then quotient_by_zero n else clamp (floor_div n d)

-- the inputs of a step, from its value of x and its coefficients
abbrev pub inputs_by : ℤ → Coefficients → List ℤ
inputs_by x by = x ∷ by.b0 ∷ by.b1 ∷ by.b2 ∷ by.a0 ∷ by.a1 ∷ by.a2 ∷ []

-- The result of a step with inputs x, b0, b1, b2, a0, a1 and a2. x1 and x2 are the two previous values of x,
-- and y1 and y2 the two previous results. All products are exact.
abbrev pub filtered : List ℤ → ℤ → ℤ → ℤ → ℤ → ℤ
filtered inputs x1 x2 y1 y2 =
    let at = argument inputs in
    ratio (((at 1 *ℤ at 0 +ℤ at 2 *ℤ x1) +ℤ at 3 *ℤ x2) -ℤ (at 5 *ℤ y1 +ℤ at 6 *ℤ y2)) (at 4)

-- the results of these steps, latest first: each depends on its step, and on the two steps and two results
-- before it
abbrev pub results : List (List ℤ) → List ℤ
results [] = []
results (inputs ∷ before) =
    let x = signal 0 before in
    let y = results before in
    filtered inputs (argument x 0) (argument x 1) (argument y 0) (argument y 1) ∷ y

-- the latest result
abbrev pub biquad_of : Rate → Pace → List ℤ → List (List ℤ) → ℤ
biquad_of rate pace init steps = argument (results (reverse steps)) 0

-- the state of the unit: its last two inputs and results, the later first
pub record BiquadState : Type 0 where
  pub x1 : ℤ
  pub x2 : ℤ
  pub y1 : ℤ
  pub y2 : ℤ

-- the two latest inputs and results, 0 before the first step
abbrev pub biquad_after : List ℤ → List ℤ → BiquadState
biquad_after x y = record { x1 = argument x 0; x2 = argument x 1; y1 = argument y 0; y2 = argument y 1 }

-- the initial state
abbrev pub biquad_start : Rate → Pace → List ℤ → BiquadState
biquad_start rate pace init = biquad_after [] []

-- one step: the state afterwards, and the result
abbrev pub biquad_step : BiquadState → List ℤ → BiquadState × ℤ
biquad_step s inputs =
    let y = filtered inputs s.x1 s.x2 s.y1 s.y2 in
    (record { x1 = argument inputs 0; x2 = s.x1; y1 = y; y2 = s.y1 }, y)

-- the state of a unit that has performed these steps
abbrev pub BiquadStands : BiquadState → Rate → Pace → List ℤ → List (List ℤ) → Type 0
BiquadStands s rate pace init steps = s ≡ biquad_after (signal 0 (reverse steps)) (results (reverse steps))
