-- linen: an amplitude with a straight rise and a straight decay.
use Rattle.std.specs.Prelude.{ℕ, ◌≡◌, ◌+◌, ◌==◌, ◌||◌, nat_le, nat_lt, List, length, ℤ, pos, ◌-ℤ◌, ◌*ℤ◌, if◌then◌else◌}
use Rattle.cs_base.specs.Numbers.{clamp, floor_div, one, product_of}
use Rattle.cs_base.specs.declared.resource.Rate.{Rate}
use Rattle.cs_signal.specs.{History.now, Operands.argument}
use Rattle.cs_signal.specs.Pace.{Pace, steps_of, number_after, number_of_last}

-- the factor of the rise at step n: n / rise until the rise is over, then 1
abbrev pub up_at : ℕ → ℕ → ℤ
up_at rise n = if nat_le rise n then one else floor_div (one *ℤ pos n) (pos rise)

-- the factor of the decay at step n: 1 until the decay begins, `decay` steps before the duration ends; then
-- it falls through 0 at the end of the duration
abbrev pub down_at : ℕ → ℕ → ℕ → ℤ
down_at duration decay n =
    if decay == 0 || nat_lt (n + decay) duration then one
    else clamp (floor_div (one *ℤ (pos duration -ℤ pos n)) (pos decay))

-- the amplitude times both factors
abbrev pub linen_of : Rate → Pace → List ℤ → List (List ℤ) → ℤ
linen_of rate pace init steps =
    let time = λ (k : ℕ). steps_of rate pace (argument init k) in
    let n = number_of_last steps in
    product_of (now 0 steps) (product_of (up_at (time 0) n) (down_at (time 1) (time 2) n))

-- the state of the unit: its times in steps, and the number of the next step
pub record LinenState : Type 0 where
  pub rise : ℕ
  pub duration : ℕ
  pub decay : ℕ
  pub number : ℕ

-- the state before step n
abbrev pub linen_at : Rate → Pace → List ℤ → ℕ → LinenState
linen_at rate pace init n = record {
  rise = steps_of rate pace (argument init 0);
  duration = steps_of rate pace (argument init 1);
  decay = steps_of rate pace (argument init 2);
  number = n;
}

-- the initial state
abbrev pub linen_start : Rate → Pace → List ℤ → LinenState
linen_start rate pace init = linen_at rate pace init 0

-- one step: the state afterwards, and the result
abbrev pub linen_step : LinenState → List ℤ → LinenState × ℤ
linen_step s inputs = (
  record { rise = s.rise; duration = s.duration; decay = s.decay; number = number_after (s.number + 1) },
  product_of (argument inputs 0) (product_of (up_at s.rise s.number) (down_at s.duration s.decay s.number)),
)

-- the state of a unit that has performed these steps
abbrev pub LinenStands : LinenState → Rate → Pace → List ℤ → List (List ℤ) → Type 0
LinenStands s rate pace init steps = s ≡ linen_at rate pace init (number_after (length steps))
