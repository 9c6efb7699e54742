-- integ: the running sum of its input.
use Rattle.std.specs.Prelude.{◌≡◌, List, ℤ, pos, fold}
use Rattle.cs_base.specs.{Numbers.sum_of, declared.resource.Rate.Rate}
use Rattle.cs_signal.specs.{History.signal, Operands.argument, Pace.Pace}

-- the sum of all values of the signal so far, clamped at each step
abbrev pub integ_of : Rate → Pace → List ℤ → List (List ℤ) → ℤ
integ_of rate pace init steps = fold sum_of (pos 0) (signal 0 steps)

-- the state of the unit is the sum
abbrev pub integ_start : Rate → Pace → List ℤ → ℤ
integ_start rate pace init = pos 0

-- one step: the state afterwards, and the result
abbrev pub integ_step : ℤ → List ℤ → ℤ × ℤ
integ_step sum inputs = (sum_of sum (argument inputs 0), sum_of sum (argument inputs 0))

-- the state of a unit that has performed these steps
abbrev pub IntegStands : ℤ → Rate → Pace → List ℤ → List (List ℤ) → Type 0
IntegStands sum rate pace init steps = sum ≡ fold sum_of (pos 0) (signal 0 steps)
