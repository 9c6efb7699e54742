-- What is fixed while a cycle runs, and what results from its serial run. M is what jobs mean, k a plan; t a
-- note and p an earlier one; e, f and g are edges; j is a job, a an address, r the index of a resource.
use Rattle.std.specs.Prelude.{◌≡◌, ℕ, zero, suc, ◌≤◌, List, [], ◌∷◌, map, length, Bool, false, ◌==◌, ◌||◌, Option, Some}
use Rattle.std.specs.Prelude.{None, slice_get}
use Rattle.cs_base.specs.Limits.{most_resources}
use Rattle.cs_cells.specs.{Areas.IsFootprint, Areas.IsLaid, Areas.word_count, Cells.Cells, Cells.covers}
use Rattle.cs_cells.specs.{Meaning.Meaning, Serial.before, Serial.AllValid, declared.footprint.Footprint.Footprint}
use Rattle.cs_graph.specs.Graph.{Edge, LeadsForward, StandTogether, IsFit}
use Rattle.cs_board.specs.{Counts.listed, Counts.count_below, declared.view.Plan.Plan}

-- some edge leads to note t
abbrev pub leads_in : List (ℕ × ℕ) → ℕ → Bool
leads_in [] t = false
leads_in (e ∷ es) t = e.1 == t || leads_in es t

-- some edge with number i or more leads from note p
abbrev pub leads_out : List (ℕ × ℕ) → ℕ → ℕ → Bool
leads_out [] p i = false
leads_out (e ∷ es) p zero = e.0 == p || leads_out es p zero
leads_out (e ∷ es) p (suc i) = leads_out es p i

module _ {J : Type 0} where
  -- the number of edges
  abbrev pub edge_count : Plan J → ℕ
  edge_count k = length k.edges

  -- the number of areas, one for each resource
  abbrev pub area_count : Plan J → ℕ
  area_count k = length k.areas

  -- note t waits for no other note
  abbrev pub IsRoot : Plan J → ℕ → Type 0
  IsRoot k t = (e p : ℕ) → ¬ (Edge k.edges e p t)

module _ {J : Type 0} (M : Meaning J) where
  -- the footprints of the notes, in serial order
  abbrev pub feet : Plan J → List Footprint
  feet k = map M.foot k.jobs

  -- the resources that a job uses; none without a job
  abbrev pub uses_of : Option J → List ℕ
  uses_of None = []
  uses_of (Some j) = (M.foot j).uses

  -- the resources that a job writes; none without a job
  abbrev pub writes_of : Option J → List ℕ
  writes_of None = []
  writes_of (Some j) = (M.foot j).writes

  -- the indexes of the resources that note t uses
  abbrev pub places_used : Plan J → ℕ → List ℕ
  places_used k t = uses_of (slice_get k.jobs t)

  -- the indexes of the resources that note t writes
  abbrev pub places_written : Plan J → ℕ → List ℕ
  places_written k t = writes_of (slice_get k.jobs t)

  -- note t may use the cell at address a; a cell that it may write counts as used
  abbrev pub uses_at : Plan J → ℕ → ℕ → Bool
  uses_at k t a = covers k.areas (places_used k t) a || covers k.areas (places_written k t) a

  -- note t may write the cell at address a
  abbrev pub writes_at : Plan J → ℕ → ℕ → Bool
  writes_at k t a = covers k.areas (places_written k t) a

  -- the cells before note t in the serial run
  abbrev pub before_at : Plan J → ℕ → Cells
  before_at k t = before M k.jobs k.cells t

  -- how many notes before t write resource r
  abbrev pub writers_before : Plan J → ℕ → ℕ → ℕ
  writers_before k t r = count_below (λ u. listed (places_written k u) r) t

  -- The facts about a plan from the start: each edge is a conflict, each conflict is reached along edges, and
  -- the edges into one note are consecutive.
  pub record IsPlan (k : Plan J) : Type 0 where
    pub jobs : length k.jobs ≡ k.notes
    pub forward : LeadsForward k.edges k.notes
    pub together : (t : ℕ) → StandTogether k.edges t
    pub fit : IsFit (feet k) k.edges
    pub footprints : (t : ℕ) (j : J) → slice_get k.jobs t ≡ Some j → IsFootprint (area_count k) (M.foot j)
    pub layout : (t : ℕ) (j : J) → slice_get k.jobs t ≡ Some j → M.areas j ≡ k.areas
    pub valid : AllValid M k.jobs
    pub laid : IsLaid k.areas
    pub few : area_count k ≤ most_resources
    pub cells : length k.cells ≡ word_count k.areas
