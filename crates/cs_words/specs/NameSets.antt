-- Different names in the order of their first appearance.
use Rattle.std.specs.Prelude.{ℕ, Bool, List, [], ◌∷◌, ◌++◌, if◌then◌else◌}
use Rattle.std.specs.{Str.bytes_eq, List.list_any, List.position_or_len}

-- whether the names contain `name`
abbrev pub has : List (List ℕ) → List ℕ → Bool
has names name = list_any (bytes_eq name) names

-- the index of a name, from 0, or the number of names if they don't contain it
abbrev pub place_of : List (List ℕ) → List ℕ → ℕ
place_of names name = position_or_len (bytes_eq name) names

-- the names with `name` added at the end, unless they contain it
abbrev pub seen : List (List ℕ) → List ℕ → List (List ℕ)
seen names name = if has names name then names else names ++ name ∷ []
