-- limit: its input clamped between two bounds.
use Rattle.std.specs.Prelude.{List, ℤ, pos, ◌+ℤ◌, int_lt, if◌then◌else◌}
use Rattle.std.specs.Int.{int_max, int_min}
use Rattle.cs_base.specs.{Numbers.floor_div, declared.resource.Rate.Rate}
use Rattle.cs_signal.specs.{Operands.argument, Pace.Pace, Plain.plain_of, Plain.plain_step}

-- a value clamped between low and high; if low is above high, the midpoint of the two, rounded down
abbrev pub limited : ℤ → ℤ → ℤ → ℤ
limited x low high =
    if int_lt high low then floor_div (low +ℤ high) (pos 2) else int_max low (int_min x high)

-- the result of a step, from its inputs x, low and high
abbrev pub limit_value : List ℤ → ℤ
limit_value inputs = limited (argument inputs 0) (argument inputs 1) (argument inputs 2)

-- the formula of the opcode
abbrev pub limit_of : Rate → Pace → List ℤ → List (List ℤ) → ℤ
limit_of = plain_of limit_value

-- one step: the result depends only on its inputs
abbrev pub limit_step : Unit {0} → List ℤ → Unit {0} × ℤ
limit_step = plain_step limit_value
