-- The stored data of a graph, so that a look-up takes time proportional to the note's own edges.
use Rattle.cs_base.specs.Limits.{most_notes}
use Rattle.std.specs.Prelude.{◌*◌, ◌≡◌, ℕ, ◌+◌, ◌<◌, ◌≤◌, ◌↔◌, List, length, slice_index, slice_index_or}
use Rattle.std.specs.List.{AllPairs}
use Rattle.cs_graph.specs.Cover.{HasCover}
use Rattle.cs_graph.specs.Graph.{Edge, ComesBefore, LeadsForward, IsNextOut, NoneOut}

-- an edge leads from note p to note t
abbrev pub HasEdge : List (ℕ × ℕ) → ℕ → ℕ → Type 0
HasEdge edges p t = (e : ℕ) × Edge edges e p t

-- the edges that lead to note t are exactly the edges from number `first` up to but excluding `end_`
abbrev pub AreInto : List (ℕ × ℕ) → ℕ → ℕ → ℕ → Type 0
AreInto edges t first end_ = (e : ℕ) → ((first ≤ e) × (e < end_)) ↔ ((p : ℕ) × Edge edges e p t)

-- the range of the edges into note t, or (0, 0) if there is no such note
abbrev pub range_at : List (ℕ × ℕ) → ℕ → ℕ × ℕ
range_at into t = slice_index_or into t (0, 0)

-- the stored data about the notes: the edges in order, and for each note the range of the edges into it
pub record AreEnds (edges : List (ℕ × ℕ)) (levels : List ℕ) (into : List (ℕ × ℕ)) : Type 0 where
  pub forward : LeadsForward edges (length levels)
  pub ordered : AllPairs ComesBefore edges
  pub each : length into ≡ length levels
  pub ranges : (t : ℕ) → t < length into → AreInto edges t (range_at into t).0 (range_at into t).1
  pub notes : length levels ≤ most_notes
  pub few : length edges ≤ most_notes * most_notes

-- the number e denotes the first edge from number i on that leads from note p, or no edge
pub record Points (edges : List (ℕ × ℕ)) (p i e : ℕ) : Type 0 where
  pub some : e < length edges → IsNextOut edges p i e
  pub none : length edges ≤ e → NoneOut edges p i

-- the edges from number i on are linked: for each note the first of them, and for each of them the next one
-- from its note
pub record IsChained (edges : List (ℕ × ℕ)) (i : ℕ) (first_out next_out : List ℕ) : Type 0 where
  pub each : length next_out ≡ length edges
  pub first : (p : ℕ) → p < length first_out → Points edges p i (slice_index first_out p)
  pub next : (e p t : ℕ) → i ≤ e → Edge edges e p t → Points edges p (e + 1) (slice_index next_out e)

-- the invariant of the parts of every graph
pub record IsStored (edges : List (ℕ × ℕ)) (levels : List ℕ) (into : List (ℕ × ℕ)) (first_out next_out : List ℕ)
    (chains : ℕ) : Type 0 where
  pub ends : AreEnds edges levels into
  pub outs : length first_out ≡ length levels
  pub chained : IsChained edges 0 first_out next_out
  pub covered : HasCover edges (length levels) chains
