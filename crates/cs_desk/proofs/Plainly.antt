-- Cells in words.
use Rattle.std.proofs.Common.{◌≡◌, ◌<◌, ℕ, zero, suc, List, [], ◌∷◌, length, Some, slice_get, refl, arith}
use Rattle.std.specs.Prelude.{slice_index}
use Rattle.cs_cells.specs.Cells.{signed, values}

-- the value in a word
pub value_at : (words : List ℕ) (n : ℕ) → n < length words
    → slice_get (values words) n ≡ Some (signed (slice_index words n))
value_at [] n low = absurd (omega arith)
value_at (w ∷ words) zero low = refl
value_at (w ∷ words) (suc n) low = value_at words n (omega (arith, low))
