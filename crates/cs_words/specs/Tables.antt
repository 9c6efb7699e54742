-- How a row is found in a list of spellings.
use Rattle.std.specs.Prelude.{ℕ, List, [], ◌∷◌, Option, Some, None, if◌then◌else◌}
use Rattle.std.specs.Str.{bytes_eq}

-- the value of the first row with this spelling
abbrev pub looked_up : {A : Type 0} → List (List ℕ × A) → List ℕ → Option A
looked_up [] bytes = None
looked_up ((spelling, meaning) ∷ rows) bytes = if bytes_eq bytes spelling then Some meaning else looked_up rows bytes
