-- The rows of a table in the code.
use Rattle.std.specs.{Prelude.ℕ, Prelude.List, Prelude.[], Prelude.◌∷◌, Borrow.Bor}

-- the rows of a table in the code, with each spelling as a list of bytes
abbrev pub rows : {A : Type 0} → List (Bor (List ℕ) × A) → List (List ℕ × A)
rows [] = []
rows ((spelling, meaning) ∷ rest) = (spelling.now, meaning) ∷ rows rest
