-- The stored form of the resources that ops touch: single resources, tables within a reach, places within a
-- reach.
use Rattle.std.specs.Prelude.{Bool, false, ◌&&◌, List, [], ◌∷◌, Option, None, Some, nat_lt}
use Rattle.std.specs.List.{flat_map}
use Rattle.cs_base.specs.{Rates.same_res, declared.resource.Res.Res, declared.spaces.Spaces.Spaces}
use Rattle.cs_ir.specs.Resources.{Stock, places_within, reaches, tables_within}
use Rattle.cs_ir.specs.declared.touches.Touch.{Touch}
use Rattle.cs_base.specs.declared.resource.Res.TheVariants as res
use Rattle.cs_words.specs.declared.catalogue.Space.TheVariants as space
use Rattle.cs_ir.specs.declared.touches.Touch.TheVariants as touch

-- the resources of a piece that are touched
abbrev pub resources : Stock → Touch → List Res
resources stock (touch.One g) = g ∷ []
resources stock (touch.Tables reach) = tables_within stock reach
resources stock (touch.Places s reach) = places_within stock s reach

-- the resources that a list of touches names
abbrev pub named : Stock → List Touch → List Res
named stock touches = flat_map (resources stock) touches

-- the resources that an optional touch names
abbrev pub named_by : Stock → Option Touch → List Res
named_by stock None = []
named_by stock (Some touch) = resources stock touch

-- whether a touch includes a resource that has an area
abbrev pub covers : Spaces → Touch → Res → Bool
covers spaces (touch.One g) r = same_res r g
covers spaces (touch.Tables reach) (res.Table n) = reaches reach n
covers spaces (touch.Places space.Control reach) (res.ZakK n) = nat_lt n spaces.control && reaches reach n
covers spaces (touch.Places space.Audio reach) (res.ZakA n) = nat_lt n spaces.audio && reaches reach n
covers spaces _ r = false
