-- The place in a table at which an index reads.
use Rattle.std.specs.{Prelude.ℕ, Prelude.◌-◌, Prelude.min, Prelude.ℤ, Prelude.pos, Prelude.unsigned_abs, Int.int_max}
use Rattle.cs_base.specs.Numbers.{whole_below}

-- an integer clamped to 0 .. most
abbrev pub from_zero_to : ℕ → ℤ → ℕ
from_zero_to most n = min most (unsigned_abs (int_max (pos 0) n))

-- the place of an index in a table of len points: the index rounded down, then clamped to 0 .. len - 1
abbrev pub place_of_index : ℕ → ℤ → ℕ
place_of_index len index = from_zero_to (len - 1) (whole_below index)
