use Rattle.std.specs.Prelude.{ℕ, suc, ◌<◌, ◌≤◌, ◌⊎◌, List, [], length, slice_index_or}
use Rattle.std.specs.List.{Contains}
use Rattle.cs_cells.specs.declared.footprint.Footprint.{Footprint}

-- the footprint uses resource r: a resource that is written also counts as used
abbrev pub UsesResource : Footprint → ℕ → Type 0
UsesResource f r = Contains f.uses r ⊎ Contains f.writes r

-- the footprint writes resource r
abbrev pub WritesResource : Footprint → ℕ → Type 0
WritesResource f r = Contains f.writes r

-- one of the two footprints writes a resource that the other uses
abbrev pub Clash : Footprint → Footprint → Type 0
Clash f g = (r : ℕ) × ((WritesResource f r × UsesResource g r) ⊎ (UsesResource f r × WritesResource g r))

-- the footprint of note t; a note after the last one touches nothing
abbrev pub foot : List Footprint → ℕ → Footprint
foot feet t = slice_index_or feet t (record { uses = []; writes = [] })

-- note p is earlier than note t, and one of the two writes a resource that the other uses
pub record Conflict (feet : List Footprint) (p t : ℕ) : Type 0 where
  pub earlier : p < t
  pub within : t < length feet
  pub clash : Clash (foot feet p) (foot feet t)

-- a chain of one or more conflicts leads from note p to note t
pub data Leads (feet : List Footprint) : ℕ → ℕ → Type 0 where
  direct : (p t : ℕ) → Conflict feet p t → Leads feet p t
  beyond : (p q t : ℕ) → Leads feet p q → Conflict feet q t → Leads feet p t

-- p conflicts with t, and no chain of two or more conflicts leads from p to t
pub record Near (feet : List Footprint) (p t : ℕ) : Type 0 where
  pub conflict : Conflict feet p t
  pub no_longer_way : (q : ℕ) → Leads feet p q → ¬ (Conflict feet q t)

-- a chain of n conflicts ends at note t
pub data Chain (feet : List Footprint) : ℕ → ℕ → Type 0 where
  alone : (t : ℕ) → Chain feet 0 t
  further : (n p t : ℕ) → Chain feet n p → Conflict feet p t → Chain feet (suc n) t

-- the level of a note: the length of the longest chain of conflicts that ends at it
pub record IsLevel (feet : List Footprint) (t level : ℕ) : Type 0 where
  pub chain : Chain feet level t
  pub longest : (n : ℕ) → Chain feet n t → n ≤ level
