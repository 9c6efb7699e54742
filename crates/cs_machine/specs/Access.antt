-- Which cells of a bank may be touched, and what is in them.
use Rattle.std.specs.Prelude.{ℕ, ℤ, ◌≡◌, ◌<◌, true, nat_lt, List, map, Some}
use Rattle.std.specs.{List.range_with_len, Option.is_some}
use Rattle.cs_words.specs.declared.catalogue.Space.{Space}
use Rattle.cs_base.specs.declared.spaces.Spaces.{Spaces}
use Rattle.cs_ir.specs.Resources.{places_of, zak_place}
use Rattle.cs_cells.specs.{Access.Access, Cells.in_area, declared.footprint.Area.Area}
use Rattle.cs_rwset.specs.Footprints.{stock_of}
use Rattle.cs_voice_meaning.specs.Placing.{area_of, wave_in}
use Rattle.cs_base.specs.declared.resource.Rate.TheVariants as rate
pub use Rattle.cs_machine.specs.Rows.{row_wave}

-- Each cell of an area is allowed, and below the number of cells.
pub record CanTouch (allowed : ℕ → Type 0) (count : ℕ) (area : Area) : Type 0 where
  pub can : (a : ℕ) → in_area (Some area) a ≡ true → allowed a
  pub within : (a : ℕ) → in_area (Some area) a ≡ true → a < count

-- each cell of the area may be read
abbrev pub CanGet : Access → Area → Type 0
CanGet access area = CanTouch access.can_get access.count area

-- each cell of the area may be set
abbrev pub CanSet : Access → Area → Type 0
CanSet access area = CanTouch access.can_set access.count area

-- the zak spaces of a layout: each has as many places as have an area
abbrev pub spaces_of : List Area → Spaces
spaces_of areas = (stock_of areas).spaces

-- the places of each zak space have areas, from place 0 on, and no other place has one
abbrev pub AreSpaces : List Area → Type 0
AreSpaces areas = (s : Space) (n : ℕ)
    → is_some (area_of areas (zak_place s n)) ≡ nat_lt n (places_of (spaces_of areas) s)

-- the points of a live table, in the cells
abbrev pub live_points : Area → (ℕ → ℤ) → List ℤ
live_points area cells = map (wave_in rate.Audio area cells) (range_with_len 0 area.length)
