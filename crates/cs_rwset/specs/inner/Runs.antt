-- Runs: numbered resources whose areas are adjacent.
use Rattle.std.specs.Prelude.{ℕ, ◌≡◌, ◌+◌, ◌<◌, ◌≤◌, Bool, true, false, List, length, slice_get, Option, Some, IfNone}
use Rattle.std.specs.Prelude.{IfSome, is_some}
use Rattle.cs_base.specs.{Limits.most_resources, declared.resource.Res.Res}
use Rattle.cs_cells.specs.{Areas.HasPlace, declared.footprint.Area.Area}
use Rattle.cs_ir.specs.{Resources.places_of, Resources.zak_place, declared.touches.Touch.Touch, Touched.covers}
use Rattle.cs_rwset.specs.{Footprints.stock_of, declared.runs.Run.Run, declared.runs.Runs.Runs}
use Rattle.cs_words.specs.declared.catalogue.Space.{Space}
use Rattle.cs_ir.specs.declared.op.Reach.TheVariants as reach
use Rattle.cs_ir.specs.declared.touches.Touch.TheVariants as touch
use Rattle.cs_words.specs.declared.catalogue.Space.TheVariants as space

-- a search returns an item with the property, or None if no item has it
abbrev pub Finds : {X : Type 0} → (X → Type 0) → Option X → Type 0
Finds {X = X} P found = IfSome found P × IfNone found ((x : X) → ¬ (P x))

-- The areas whose resources pass a test are exactly those from one place up to another.
pub record IsRun (areas : List Area) (test : Res → Bool) (run : Run) : Type 0 where
  pub ordered : run.from ≤ run.to
  pub within : run.to ≤ length areas
  pub inside : (place : ℕ) (a : Area) → slice_get areas place ≡ Some a → run.from ≤ place → place < run.to
      → test a.res ≡ true
  pub before : (place : ℕ) (a : Area) → slice_get areas place ≡ Some a → place < run.from → test a.res ≡ false
  pub behind : (place : ℕ) (a : Area) → slice_get areas place ≡ Some a → run.to ≤ place → test a.res ≡ false

-- The first `count` places of a zak space have adjacent areas, in the order of their numbers.
pub record AreInOrder (areas : List Area) (s : Space) (count begin : ℕ) : Type 0 where
  pub within : begin + count ≤ length areas
  pub each : (n : ℕ) → n < count → HasPlace areas (zak_place s n) (begin + n)

-- the place of a zak space's first area
abbrev pub begin_of : Runs → Space → Option ℕ
begin_of runs space.Control = runs.control
begin_of runs space.Audio = runs.audio

-- the numbered resources of a layout, and where their areas are adjacent
pub record AreRuns (areas : List Area) (runs : Runs) : Type 0 where
  pub few : length areas ≤ most_resources
  pub spaces : runs.spaces ≡ (stock_of areas).spaces
  pub tables : Finds (IsRun areas (covers runs.spaces (touch.Tables reach.Any))) runs.tables
  pub places : (s : Space) → Finds (AreInOrder areas s (places_of runs.spaces s)) (begin_of runs s)

-- whether runs cover a touch: all tables, or places of a zak space, if their areas are adjacent
abbrev pub is_told : Runs → Touch → Bool
is_told runs (touch.Tables reach.Any) = is_some runs.tables
is_told runs (touch.Places s r) = is_some (begin_of runs s)
is_told runs _ = false
