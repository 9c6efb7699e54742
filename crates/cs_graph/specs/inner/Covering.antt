-- The first m notes, divided into chains; the later notes are still to come.
use Rattle.std.specs.Prelude.{◌≡◌, ℕ, ◌<◌, ◌≤◌, ◌⊎◌, Bool, true, false, List, slice_index_or}
use Rattle.cs_graph.specs.{Cover.HasLater, Cover.HasEarlier, Graph.Edge, Graph.Reaches}

-- whether a later note continues note p's chain, according to the list
abbrev pub goes_on : List Bool → ℕ → Bool
goes_on continued p = slice_index_or continued p false

-- the first m notes are divided into `count` chains, and `continued` marks the notes that have a later one in
-- their chain
pub record IsCoveredTo (edges : List (ℕ × ℕ)) (m : ℕ) (continued : List Bool) (count : ℕ) (chain : ℕ → ℕ) : Type 0 where
  pub within : (t : ℕ) → t < m → chain t < count
  pub filled : (k : ℕ) → k < count → (t : ℕ) × (t < m) × (chain t ≡ k)
  pub linked : (p t : ℕ) → p < t → t < m → chain p ≡ chain t → Reaches edges p t
  pub last : (p q : ℕ) → p < m → q < m → goes_on continued p ≡ false → chain q ≡ chain p → q ≤ p
  pub later : (p : ℕ) → goes_on continued p ≡ true → HasLater m chain p
  pub joined : (e p t : ℕ) → t < m → Edge edges e p t → (goes_on continued p ≡ true) ⊎ HasEarlier chain t

-- the first m notes are divided into `count` chains
abbrev pub ArePartedTo : List (ℕ × ℕ) → ℕ → List Bool → ℕ → Type 0
ArePartedTo edges m continued count = (chain : ℕ → ℕ) × IsCoveredTo edges m continued count chain

-- an edge in the range leads from note p, whose chain has no later note yet
abbrev pub IsFree : List (ℕ × ℕ) → List Bool → ℕ → ℕ → ℕ → Type 0
IsFree edges continued first end_ p =
    (e : ℕ) × (t : ℕ) × (first ≤ e) × (e < end_) × Edge edges e p t × (goes_on continued p ≡ false)

-- every note that has an edge in the range has a later note in its chain
abbrev pub AreTaken : List (ℕ × ℕ) → List Bool → ℕ → ℕ → Type 0
AreTaken edges continued first end_ = (e p t : ℕ) → first ≤ e → e < end_ → Edge edges e p t → goes_on continued p ≡ true
