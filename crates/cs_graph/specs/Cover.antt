-- The number of workers that a cycle can use: the number of chains along edges that cover its notes.
use Rattle.std.specs.Prelude.{◌≡◌, ◌≢◌, ℕ, ◌<◌, ◌⊎◌, List}
use Rattle.std.specs.List.{All, AllPairs}
use Rattle.cs_graph.specs.Graph.{Edge, Reaches}

-- a later note, among the first n notes, is in the same chain
abbrev pub HasLater : ℕ → (ℕ → ℕ) → ℕ → Type 0
HasLater n chain p = (q : ℕ) × (p < q) × (q < n) × (chain q ≡ chain p)

-- an earlier note is in the same chain
abbrev pub HasEarlier : (ℕ → ℕ) → ℕ → Type 0
HasEarlier chain t = (q : ℕ) × (q < t) × (chain q ≡ chain t)

-- n notes are divided into `count` chains, and note t is in chain number `chain t`
pub record IsCover (edges : List (ℕ × ℕ)) (n count : ℕ) (chain : ℕ → ℕ) : Type 0 where
  pub within : (t : ℕ) → t < n → chain t < count
  -- no chain is empty
  pub filled : (k : ℕ) → k < count → (t : ℕ) × (t < n) × (chain t ≡ k)
  -- of two notes in one chain, the later one waits for the earlier one
  pub linked : (p t : ℕ) → p < t → t < n → chain p ≡ chain t → Reaches edges p t
  -- no edge leads from the last note of a chain to the first note of another
  pub joined : (e p t : ℕ) → Edge edges e p t → HasLater n chain p ⊎ HasEarlier chain t

-- some division of n notes into `count` chains is a cover
abbrev pub HasCover : List (ℕ × ℕ) → ℕ → ℕ → Type 0
HasCover edges n count = (chain : ℕ → ℕ) × IsCover edges n count chain

-- notes, among the first n, that may all run at once: they differ, and none waits for another
pub record AreApart (edges : List (ℕ × ℕ)) (n : ℕ) (notes : List ℕ) : Type 0 where
  pub within : All (λ t. t < n) notes
  pub apart : AllPairs (λ p t. (p ≢ t) × (¬ (Reaches edges p t)) × (¬ (Reaches edges t p))) notes
