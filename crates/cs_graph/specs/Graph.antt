use Rattle.std.specs.Prelude.{◌≡◌, ℕ, ◌+◌, ◌<◌, ◌≤◌, ◌⊎◌, ◌↔◌, List, length, slice_get, slice_index, Some}
use Rattle.std.specs.List.{AllPairs}
use Rattle.cs_cells.specs.declared.footprint.Footprint.{Footprint}
use Rattle.cs_graph.specs.Conflict.{Conflict, Near, IsLevel}

-- A graph as contracts see it: its edges, each from an earlier note to a later one, and the level of each
-- note.
pub record Dependencies : Type 0 where
  pub edges : List (ℕ × ℕ)
  pub levels : List ℕ

-- edge number e leads from note p to note t
abbrev pub Edge : List (ℕ × ℕ) → ℕ → ℕ → ℕ → Type 0
Edge edges e p t = slice_get edges e ≡ Some (p, t)

-- the order of edges: by the later note, and for the same later note by the earlier one
abbrev pub ComesBefore : ℕ × ℕ → ℕ × ℕ → Type 0
ComesBefore e f = (e.1 < f.1) ⊎ ((e.1 ≡ f.1) × (e.0 < f.0))

-- each edge leads from an earlier note to a later one, and both are among the first n notes
abbrev pub LeadsForward : List (ℕ × ℕ) → ℕ → Type 0
LeadsForward edges n = (e p t : ℕ) → Edge edges e p t → (p < t) × (t < n)

-- the edges into note t are consecutive
abbrev pub StandTogether : List (ℕ × ℕ) → ℕ → Type 0
StandTogether edges t = (e f g p q : ℕ) → Edge edges e p t → Edge edges g q t → e ≤ f → f ≤ g
    → (r : ℕ) × Edge edges f r t

-- no edge from number i on leads from note p
abbrev pub NoneOut : List (ℕ × ℕ) → ℕ → ℕ → Type 0
NoneOut edges p i = (e t : ℕ) → Edge edges e p t → e < i

-- no edge from number i on leads to note t
abbrev pub NoneIn : List (ℕ × ℕ) → ℕ → ℕ → Type 0
NoneIn edges t i = (e p : ℕ) → Edge edges e p t → e < i

-- edge e is the first from number i on that leads from note p
pub record IsNextOut (edges : List (ℕ × ℕ)) (p i e : ℕ) : Type 0 where
  pub low : i ≤ e
  pub below : e < length edges
  pub edge : (t : ℕ) × Edge edges e p t
  pub first : (f t : ℕ) → Edge edges f p t → i ≤ f → e ≤ f

-- a path of one or more edges leads from note p to note t
pub data Reaches (edges : List (ℕ × ℕ)) : ℕ → ℕ → Type 0 where
  step : (e p t : ℕ) → Edge edges e p t → Reaches edges p t
  onward : (e p q t : ℕ) → Reaches edges p q → Edge edges e q t → Reaches edges p t

-- the graph of a list of footprints: its edges are exactly the nearest conflicts, in order and without
-- duplicates
pub record IsGraphOf (feet : List Footprint) (graph : Dependencies) : Type 0 where
  pub notes : length graph.levels ≡ length feet
  pub near : (p t : ℕ) → ((e : ℕ) × Edge graph.edges e p t) ↔ Near feet p t
  pub ordered : AllPairs ComesBefore graph.edges
  pub level : (t : ℕ) → t < length feet → IsLevel feet t (slice_index graph.levels t)

-- each edge is a conflict, and from each earlier conflicting note a path of edges leads to the later one
pub record IsFit (feet : List Footprint) (edges : List (ℕ × ℕ)) : Type 0 where
  pub each : (e p t : ℕ) → Edge edges e p t → Conflict feet p t
  pub all : (p t : ℕ) → Conflict feet p t → Reaches edges p t

-- the level is 0 without an earlier conflicting note, and otherwise one more than the greatest level among
-- those notes
pub record IsLevelled (feet : List Footprint) (levels : List ℕ) : Type 0 where
  pub none : (t : ℕ) → t < length feet → ((p : ℕ) → ¬ (Conflict feet p t)) → slice_index levels t ≡ 0
  pub above : (p t : ℕ) → Conflict feet p t → slice_index levels p < slice_index levels t
  pub greatest : (t : ℕ) → t < length feet → 0 < slice_index levels t
      → (p : ℕ) × Conflict feet p t × (slice_index levels t ≡ slice_index levels p + 1)
