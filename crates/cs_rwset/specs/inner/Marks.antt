-- Marks, one for each area.
use Rattle.std.specs.Prelude.{ℕ, Bool, false, List, length, map, slice_index_or}
use Rattle.std.specs.List.{filter, range_with_len}
use Rattle.cs_base.specs.declared.resource.Res.{Res}
use Rattle.cs_cells.specs.declared.footprint.Area.{Area}
use Rattle.cs_rwset.specs.Footprints.{is_among}

-- each area is marked if its resource passes the test
abbrev pub marked_by : (Res → Bool) → List Area → List Bool
marked_by test areas = map (λ a. test a.res) areas

-- each area is marked if its resource is in the list
abbrev pub marks_of : List Area → List Res → List Bool
marks_of areas resources = marked_by (is_among resources) areas

-- the places that are marked
abbrev pub marked : List Bool → List ℕ
marked marks = filter (λ place. slice_index_or marks place false) (range_with_len 0 (length marks))
