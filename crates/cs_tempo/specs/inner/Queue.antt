-- The view of an instrument's pairing in contracts.
use Rattle.std.specs.Prelude.{ℕ, List}

-- the pairing of an instrument between two turns: the beats of its remaining stops, and the number of its
-- held notes that sound
pub record Queue : Type 0 where
  pub stops : List ℕ
  pub sounding : ℕ
