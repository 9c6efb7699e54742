-- The indices of names in a list, as stored in an ordered map.
use Rattle.std.specs.Prelude.{ℕ, suc, ◌≡◌, List, [], ◌∷◌, Option, Some, None, if◌then◌else◌}
use Rattle.std.specs.BTreeMap.{BTreeMap, get_by}
use Rattle.std.specs.{Borrow.Bor, Cmp.Lexicographic.slice_cmp, Option.option_map, Ordering.nat_cmp, Str.bytes_eq}

-- the index of a name, if the list contains it
abbrev pub place_among : List (List ℕ) → List ℕ → Option ℕ
place_among [] name = None
place_among (n ∷ ns) name = if bytes_eq name n then Some 0 else option_map suc (place_among ns name)

-- the map has the index of each name in the list, and no other name
abbrev pub IsIndex : List (List ℕ) → BTreeMap (Bor (List ℕ)) ℕ → Type 0
IsIndex names index = (name : List ℕ) → get_by (λ k. slice_cmp nat_cmp name k.now) index ≡ place_among names name
