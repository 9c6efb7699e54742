-- The objects that the caller of the program passes in, at one moment, and what they tell.
use Rattle.std.specs.Prelude.{ℕ, ℤ, List}
use Rattle.cs_edge.specs.{Files.ShelfTold, Moves.SinkTold}
use Rattle.cs_perform.specs.Counted.{Receipts}

-- the shelf, the sound file, `talk`, the meters, and the counter of cycles
pub record Scene (F K T B C : Type 0) : Type 0 where
  pub shelf : F
  pub wav : K
  pub talk : T
  pub taps : List B
  pub tally : C

-- the scene of these objects
abbrev pub scene : {F K T B C : Type 0} → F → K → T → List B → C → Scene F K T B C
scene shelf wav talk taps tally = record { shelf = shelf; wav = wav; talk = talk; taps = taps; tally = tally }

-- What the objects tell: shelf and sinks what was done with them, a meter the values that it received and its
-- line, and the counter the receipts that it has counted.
pub record Sight (F K T B C : Type 0) : Type 1 where
  pub shelf : F → ShelfTold
  pub wav : K → SinkTold
  pub talk : T → SinkTold
  pub counted : C → Receipts → Type 0
  pub stands : B → List ℤ → Type 0
  pub line : B → ℕ → List ℕ

-- what these objects tell
abbrev pub sight : {F K T B C : Type 0} → (F → ShelfTold) → (K → SinkTold) → (T → SinkTold)
    → (C → Receipts → Type 0) → (B → List ℤ → Type 0) → (B → ℕ → List ℕ) → Sight F K T B C
sight shelf wav talk counted stands line = record {
  shelf = shelf;
  wav = wav;
  talk = talk;
  counted = counted;
  stands = stands;
  line = line;
}
