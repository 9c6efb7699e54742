-- The areas of a layout that hold the resources which a code may touch.
use Rattle.std.specs.Prelude.{ℕ, Bool, true, false, List, length, slice_get, Option, Some, None}
use Rattle.std.specs.List.{count_by, filter, filter_map, list_any, range_with_len}
use Rattle.cs_base.specs.{Rates.same_res, declared.resource.Res.Res}
use Rattle.cs_words.specs.declared.catalogue.Space.{Space}
use Rattle.cs_cells.specs.declared.footprint.Area.{Area}
use Rattle.cs_ir.specs.Resources.{Stock}
use Rattle.cs_base.specs.declared.resource.Res.TheVariants as res
use Rattle.cs_words.specs.declared.catalogue.Space.TheVariants as space

-- whether a resource is a place of a zak space
abbrev pub is_place : Space → Res → Bool
is_place space.Control (res.ZakK n) = true
is_place space.Audio (res.ZakA n) = true
is_place _ _ = false

-- the number of places of a zak space that have an area
abbrev pub place_count : List Area → Space → ℕ
place_count areas s = count_by (λ a. is_place s a.res) areas

-- the number of a table; None for any other resource
abbrev pub table_number : Res → Option ℕ
table_number (res.Table n) = Some n
table_number _ = None

-- the resources of a layout besides variables and channels: the places of each zak space that have an area,
-- and the tables that have one
abbrev pub stock_of : List Area → Stock
stock_of areas = record {
  spaces = record { control = place_count areas space.Control; audio = place_count areas space.Audio };
  live = filter_map (λ a. table_number a.res) areas;
}

-- whether a resource is in a list
abbrev pub is_among : List Res → Res → Bool
is_among resources r = list_any (same_res r) resources

-- whether there is an area, and its resource is in a list
abbrev pub is_of_one : List Res → Option Area → Bool
is_of_one resources None = false
is_of_one resources (Some area) = is_among resources area.res

-- the places, in ascending order, of the areas whose resource is in a list
abbrev pub places_holding : List Area → List Res → List ℕ
places_holding areas resources =
    filter (λ place. is_of_one resources (slice_get areas place)) (range_with_len 0 (length areas))
