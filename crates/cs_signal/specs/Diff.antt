-- diff: the increase of its input since the previous step.
use Rattle.std.specs.Prelude.{◌≡◌, List, ℤ, pos}
use Rattle.cs_base.specs.{Numbers.difference_of, declared.resource.Rate.Rate}
use Rattle.cs_signal.specs.{History.ago, History.now, Operands.argument, Pace.Pace}

-- the input minus the previous input, which is 0 before the first step
abbrev pub diff_of : Rate → Pace → List ℤ → List (List ℤ) → ℤ
diff_of rate pace init steps = difference_of (now 0 steps) (ago 0 1 steps)

-- the state of the unit is the previous input
abbrev pub diff_start : Rate → Pace → List ℤ → ℤ
diff_start rate pace init = pos 0

-- one step: the state afterwards, and the result
abbrev pub diff_step : ℤ → List ℤ → ℤ × ℤ
diff_step before inputs = (argument inputs 0, difference_of (argument inputs 0) before)

-- the state of a unit that has performed these steps
abbrev pub DiffStands : ℤ → Rate → Pace → List ℤ → List (List ℤ) → Type 0
DiffStands before rate pace init steps = before ≡ now 0 steps
