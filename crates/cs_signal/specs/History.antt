-- The inputs of a unit in all its steps so far.
use Rattle.std.specs.Prelude.{ℕ, ◌-◌, List, [], length, map, reverse, ℤ, slice_index_or}
use Rattle.cs_signal.specs.Operands.{argument}

-- the values of input k, step by step
abbrev pub signal : ℕ → List (List ℤ) → List ℤ
signal k steps = map (λ inputs. argument inputs k) steps

-- the value of input k m steps ago, where the last step is 0 steps ago; 0 before the first step
abbrev pub ago : ℕ → ℕ → List (List ℤ) → ℤ
ago k m steps = argument (reverse (signal k steps)) m

-- the value of input k in the last step
abbrev pub now : ℕ → List (List ℤ) → ℤ
now k steps = ago k 0 steps

-- the inputs of the last step
abbrev pub last_of : List (List ℤ) → List ℤ
last_of steps = slice_index_or steps (length steps - 1) []
