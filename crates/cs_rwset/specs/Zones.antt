-- Zones: neighbouring areas that every code touches together are joined; and the footprints of codes over
-- zones.
use Rattle.std.specs.{Prelude.ℕ, Prelude.◌≡◌, Prelude.◌<◌, Prelude.◌≤◌, Prelude.List, Prelude.length, List.All}
use Rattle.cs_cells.specs.Areas.{IsFootprint, IsLaid, word_count}
use Rattle.cs_cells.specs.{Cells.covers, declared.footprint.Area.Area, declared.footprint.Footprint.Footprint}
use Rattle.cs_ir.specs.{Resources.ops_use, Resources.ops_write, declared.op.Code.Code}
use Rattle.cs_rwset.specs.Footprints.{places_holding, stock_of}

-- Zones cover the same cells as the areas, one after another, and there are at most as many zones as areas.
-- If no area is empty, no zone is.
pub record AreZones (areas zones : List Area) : Type 0 where
  pub laid : IsLaid zones
  pub words : word_count zones ≡ word_count areas
  pub few : length zones ≤ length areas
  pub some : All (λ (a : Area). 0 < a.length) areas → All (λ (z : Area). 0 < z.length) zones

-- The footprint of a performance code over zones covers exactly the cells of the areas whose resource an op
-- may use, and the cells of the areas whose resource an op may write.
pub record IsFootOver (areas zones : List Area) (perf : Code) (foot : Footprint) : Type 0 where
  pub uses : (a : ℕ) → covers zones foot.uses a
      ≡ covers areas (places_holding areas (ops_use (stock_of areas) perf.ops)) a
  pub writes : (a : ℕ) → covers zones foot.writes a
      ≡ covers areas (places_holding areas (ops_write (stock_of areas) perf.ops)) a
  pub places : IsFootprint (length zones) foot
