-- line: a straight line through two values, which never ends.
use Rattle.std.specs.Prelude.{ℕ, ◌≡◌, ◌+◌, max, List, length, ℤ, pos, ◌+ℤ◌, ◌-ℤ◌, ◌*ℤ◌}
use Rattle.cs_base.specs.{Numbers.clamp, Numbers.floor_div, declared.resource.Rate.Rate}
use Rattle.cs_signal.specs.{Operands.argument, Pace.Pace, Pace.steps_of, Pace.number_after, Pace.number_of_last}

-- the value at n / d of the way from one value to another, rounded down
abbrev pub part_way : ℤ → ℤ → ℕ → ℕ → ℤ
part_way from to n d = from +ℤ floor_div ((to -ℤ from) *ℤ pos n) (pos d)

-- the number of steps from the first value to the second: the duration in steps, but at least one
abbrev pub way_of : Rate → Pace → List ℤ → ℕ
way_of rate pace init = max 1 (steps_of rate pace (argument init 1))

-- the value at step n is n steps along the way from the first value to the second
abbrev pub line_of : Rate → Pace → List ℤ → List (List ℤ) → ℤ
line_of rate pace init steps =
    clamp (part_way (argument init 0) (argument init 2) (number_of_last steps) (way_of rate pace init))

-- the state of the unit: its two values, its duration in steps, and the number of the next step
pub record LineState : Type 0 where
  pub from : ℤ
  pub to : ℤ
  pub way : ℕ
  pub number : ℕ

-- the state before step n
abbrev pub line_at : Rate → Pace → List ℤ → ℕ → LineState
line_at rate pace init n =
    record { from = argument init 0; to = argument init 2; way = way_of rate pace init; number = n }

-- the initial state
abbrev pub line_start : Rate → Pace → List ℤ → LineState
line_start rate pace init = line_at rate pace init 0

-- one step: the state afterwards, and the result
abbrev pub line_step : LineState → List ℤ → LineState × ℤ
line_step s inputs = (
  record { from = s.from; to = s.to; way = s.way; number = number_after (s.number + 1) },
  clamp (part_way s.from s.to s.number s.way),
)

-- the state of a unit that has performed these steps
abbrev pub LineStands : LineState → Rate → Pace → List ℤ → List (List ℤ) → Type 0
LineStands s rate pace init steps = s ≡ line_at rate pace init (number_after (length steps))
