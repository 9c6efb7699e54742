-- The stored data of a layout, with which a resource is found without a search of all areas.
use Rattle.std.specs.Prelude.{◌≡◌, ℕ, List, map, None}
use Rattle.cs_base.specs.{Rates.res_kind, Rates.res_number, declared.resource.Res.Res}
use Rattle.cs_cells.specs.{Areas.IsLaid, Areas.limit_passed, Areas.word_count, declared.footprint.Area.Area}

-- a resource's kind, and its number among the resources of that kind
abbrev pub key : Res → ℕ × ℕ
key res = (res_kind res, res_number res)

-- the keys of the areas' resources, in order
abbrev pub keys_of : List Area → List (ℕ × ℕ)
keys_of areas = map (λ a. key a.res) areas

-- the stored data of a layout: its areas are laid out within the limits, with the keys of their resources and
-- the number of words
pub record IsIndexed (areas : List Area) (index : List (ℕ × ℕ)) (count : ℕ) : Type 0 where
  pub laid : IsLaid areas
  pub within : limit_passed areas ≡ None
  pub keys : index ≡ keys_of areas
  pub words : count ≡ word_count areas
