-- The inputs of a unit, step by step. A step's inputs are its moving arguments in the order of the text. For
-- a unit that reads a table they are followed by all points of the table at that step, the guard point last.
use Rattle.std.specs.Prelude.{ℤ, List, ◌-◌, length, take}

-- the inputs of the steps before the last
abbrev pub before_last : List (List ℤ) → List (List ℤ)
before_last inputs = take (length inputs - 1) inputs
