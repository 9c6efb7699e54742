-- The work at one note, stated with plain sets: the earlier notes that conflict with it, and for each earlier
-- note the notes that lead to it.
use Rattle.std.specs.Prelude.{◌≡◌, ℕ, ◌<◌, ◌≤◌, ◌+◌, ◌⊎◌, true, List, [], slice_index_or}
use Rattle.cs_graph.specs.{inner.Sets.has, declared.nearest.Known.Known, declared.nearest.Found.Found}

-- the data about note q, or an empty set and level 0 if there is none
abbrev pub known_at : List Known → ℕ → Known
known_at known q = slice_index_or known q (record { reach = []; level = 0 })

-- note p is in the set
abbrev pub Has : List ℕ → ℕ → Type 0
Has set p = has set p ≡ true

-- according to the stored sets, a chain leads from note p to note q
abbrev pub LeadsIn : List Known → ℕ → ℕ → Type 0
LeadsIn known p q = Has (known_at known q).reach p

-- chains lead from earlier notes to later ones, and two chains in a row form a chain
pub record IsClosed (known : List Known) (t : ℕ) : Type 0 where
  pub earlier : (p q : ℕ) → q < t → LeadsIn known p q → p < q
  pub chained : (p q r : ℕ) → r < t → LeadsIn known p q → LeadsIn known q r → LeadsIn known p r
  pub low : (q : ℕ) → q < t → (known_at known q).level ≤ q

-- the data found at note t from its conflicting notes between `from` and t
pub record IsFound (met : List ℕ) (known : List Known) (from t : ℕ) (found : Found) : Type 0 where
  pub near : (p : ℕ) → Has found.near p
      → (from ≤ p) × (p < t) × Has met p × ((q : ℕ) → q < t → Has met q → ¬ (LeadsIn known p q))
  pub rest : (p : ℕ) → from ≤ p → p < t → Has met p
      → Has found.near p ⊎ ((q : ℕ) × (q < t) × Has met q × LeadsIn known p q)
  pub reach : (p : ℕ) → Has found.known.reach p
      → (q : ℕ) × (from ≤ q) × (q < t) × Has met q × ((p ≡ q) ⊎ LeadsIn known p q)
  pub all : (p q : ℕ) → from ≤ q → q < t → Has met q → (p ≡ q) ⊎ LeadsIn known p q → Has found.known.reach p
  pub above : (q : ℕ) → from ≤ q → q < t → Has met q → (known_at known q).level < found.known.level
  pub greatest : 0 < found.known.level
      → (q : ℕ) × (from ≤ q) × (q < t) × Has met q × (found.known.level ≡ (known_at known q).level + 1)
  pub low : found.known.level ≤ t
