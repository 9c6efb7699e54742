-- A unit without state: the result of a step depends only on the step's inputs.
use Rattle.std.specs.Prelude.{List, ℤ}
use Rattle.cs_base.specs.declared.resource.Rate.{Rate}
use Rattle.cs_signal.specs.{History.last_of, Pace.Pace}

-- the formula: the result depends on the inputs of the last step
abbrev pub plain_of : (List ℤ → ℤ) → Rate → Pace → List ℤ → List (List ℤ) → ℤ
plain_of value rate pace init steps = value (last_of steps)

-- the initial state, which is empty
abbrev pub plain_start : Rate → Pace → List ℤ → Unit {0}
plain_start rate pace init = tt

-- one step: the state stays empty
abbrev pub plain_step : (List ℤ → ℤ) → Unit {0} → List ℤ → Unit {0} × ℤ
plain_step value s inputs = (tt, value inputs)

-- the empty state fits any steps
abbrev pub PlainStands : Unit {0} → Rate → Pace → List ℤ → List (List ℤ) → Type 0
PlainStands s rate pace init steps = Unit {0}
