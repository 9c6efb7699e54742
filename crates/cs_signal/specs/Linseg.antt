-- linseg: straight segments from value to value; after the last segment its last value continues.
use Rattle.std.specs.Prelude.{ℕ, ◌≡◌, ◌+◌, ◌-◌, ◌*◌, ◌/◌, nat_lt, List, length, map, take, sum, ℤ, slice_index}
use Rattle.std.specs.{Prelude.if◌then◌else◌, List.position_or_len, List.range_with_len}
use Rattle.cs_base.specs.{Numbers.clamp, declared.resource.Rate.Rate}
use Rattle.cs_signal.specs.{Line.part_way, Operands.argument}
use Rattle.cs_signal.specs.Pace.{Pace, steps_of, number_after, number_of_last}

-- the number of segments that the arguments describe: one for each value after the first
abbrev pub pieces_of : List ℤ → ℕ
pieces_of init = (length init - 1) / 2

-- the values at the ends of the segments
abbrev pub values_of : List ℤ → List ℤ
values_of init = map (λ k. argument init (2 * k)) (range_with_len 0 (pieces_of init + 1))

-- the length of each segment in steps
abbrev pub lengths_of : Rate → Pace → List ℤ → List ℕ
lengths_of rate pace init =
    map (λ k. steps_of rate pace (argument init (2 * k + 1))) (range_with_len 0 (pieces_of init))

-- the step at which segment k begins: the sum of the lengths of the segments before it
abbrev pub begin_of : List ℕ → ℕ → ℕ
begin_of lengths k = sum (take k lengths)

-- the index of the first segment that ends after step n, or the number of segments if none does
unfoldable pub piece_at : List ℕ → ℕ → ℕ
piece_at lengths n =
    position_or_len (λ k. nat_lt n (begin_of lengths (k + 1))) (range_with_len 0 (length lengths))

-- the value at step n is on the line of its segment; after the last segment it is the last value
unfoldable pub on_pieces : List ℤ → List ℕ → ℕ → ℤ
on_pieces values lengths n =
    let k = piece_at lengths n in
    if nat_lt k (length lengths)
    then part_way (argument values k) (argument values (k + 1)) (n - begin_of lengths k) (slice_index lengths k)
    else argument values k

-- the formula of the opcode: the value at the last step, clamped
abbrev pub linseg_of : Rate → Pace → List ℤ → List (List ℤ) → ℤ
linseg_of rate pace init steps =
    clamp (on_pieces (values_of init) (lengths_of rate pace init) (number_of_last steps))

-- the state of the unit: its segments, and the number of the next step
pub record LinsegState : Type 0 where
  pub values : List ℤ
  pub lengths : List ℕ
  pub number : ℕ

-- the state before step n
abbrev pub linseg_at : Rate → Pace → List ℤ → ℕ → LinsegState
linseg_at rate pace init n =
    record { values = values_of init; lengths = lengths_of rate pace init; number = n }

-- the initial state
abbrev pub linseg_start : Rate → Pace → List ℤ → LinsegState
linseg_start rate pace init = linseg_at rate pace init 0

-- one step: the state afterwards, and the result
abbrev pub linseg_step : LinsegState → List ℤ → LinsegState × ℤ
linseg_step s inputs = (
  record { values = s.values; lengths = s.lengths; number = number_after (s.number + 1) },
  clamp (on_pieces s.values s.lengths s.number),
)

-- the state of a unit that has performed these steps
abbrev pub LinsegStands : LinsegState → Rate → Pace → List ℤ → List (List ℤ) → Type 0
LinsegStands s rate pace init steps = s ≡ linseg_at rate pace init (number_after (length steps))
