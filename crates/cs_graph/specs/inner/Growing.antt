-- A graph under construction, for the first notes of a list of footprints.
use Rattle.cs_base.specs.Limits.{most_notes}
use Rattle.std.specs.Prelude.{◌≡◌, ℕ, ◌+◌, ◌*◌, ◌<◌, ◌≤◌, ◌↔◌, ◌⊎◌, true, List, length, slice_index}
use Rattle.std.specs.List.{All, AllPairs}
use Rattle.cs_cells.specs.declared.footprint.Footprint.{Footprint}
use Rattle.cs_graph.specs.Conflict.{Conflict, Leads, Near}
use Rattle.cs_graph.specs.{Graph.Edge, Graph.ComesBefore, inner.Nearest.known_at, inner.Nearest.LeadsIn, inner.Sets.has}
use Rattle.cs_graph.specs.{inner.Touched.IsTouchedBy, declared.nearest.Known.Known, declared.growing.Growing.Growing}
use Rattle.cs_graph.specs.inner.Index.{HasEdge, AreInto, range_at}

-- for each of the first n notes, the stored earlier notes and the level are correct
pub record IsKnown (feet : List Footprint) (n : ℕ) (known : List Known) : Type 0 where
  pub long : length known ≡ n
  pub leads : (p q : ℕ) → q < n → LeadsIn known p q ↔ Leads feet p q
  pub low : (q : ℕ) → q < n → (known_at known q).level ≤ q
  pub above : (p q : ℕ) → q < n → Conflict feet p q → (known_at known p).level < (known_at known q).level
  pub greatest : (q : ℕ) → q < n → 0 < (known_at known q).level
      → (p : ℕ) × Conflict feet p q × ((known_at known q).level ≡ (known_at known p).level + 1)

-- the edges into the first n notes are the nearest conflicts, and every other conflict has a longer chain
pub record IsDrawn (feet : List Footprint) (n : ℕ) (edges : List (ℕ × ℕ)) : Type 0 where
  pub each : (p t : ℕ) → HasEdge edges p t → (t < n) × Near feet p t
  pub near : (p t : ℕ) → t < n → Near feet p t → HasEdge edges p t
  pub rest : (p t : ℕ) → t < n → Conflict feet p t → HasEdge edges p t ⊎ ((q : ℕ) × Leads feet p q × Conflict feet q t)

-- the old edges are followed by the edges to note t from the members of the set below p
pub record AreDrawnTo (old : List (ℕ × ℕ)) (near : List ℕ) (t p : ℕ) (edges : List (ℕ × ℕ)) : Type 0 where
  pub ends : (a b : ℕ) → HasEdge edges a b ↔ (HasEdge old a b ⊎ ((b ≡ t) × (a < p) × (has near a ≡ true)))
  pub kept : (e a b : ℕ) → Edge old e a b → Edge edges e a b
  pub behind : (e a b : ℕ) → Edge edges e a b → Edge old e a b ⊎ ((length old ≤ e) × (b ≡ t))
  pub before : All (λ e. ComesBefore e (p, t)) edges
  pub ordered : AllPairs ComesBefore edges
  pub long : length old ≤ length edges
  pub few : length edges ≤ length old + p

-- the data of the graph under construction are correct for the first n notes
pub record IsGrown (feet : List Footprint) (n : ℕ) (growing : Growing) : Type 0 where
  pub touched : IsTouchedBy feet n growing.by_place
  pub known : IsKnown feet n growing.known.items
  pub levels : length growing.levels.items ≡ n
  pub level : (q : ℕ) → q < n → slice_index growing.levels.items q ≡ (known_at growing.known.items q).level
  pub into : length growing.into.items ≡ n
  pub ranges : (q : ℕ) → q < n
      → AreInto growing.edges.items q (range_at growing.into.items q).0 (range_at growing.into.items q).1
  pub ordered : AllPairs ComesBefore growing.edges.items
  pub drawn : IsDrawn feet n growing.edges.items
  pub few : length growing.edges.items ≤ most_notes * n
