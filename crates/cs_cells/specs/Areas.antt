use Rattle.std.specs.Prelude.{◌≡◌, ◌<◌, ℕ, List, length, take, sum_by, nat_lt, Option, Some, None, slice_get}
use Rattle.std.specs.{Prelude.if◌then◌else◌, List.Contains, List.Sorted.IsStrictlyIncreasing}
use Rattle.cs_base.specs.{declared.resource.Res.Res, declared.limit.LimitHit.LimitHit}
use Rattle.cs_base.specs.Limits.{most_resources, most_words}
use Rattle.cs_cells.specs.{declared.footprint.Area.Area, declared.footprint.Footprint.Footprint}
use Rattle.cs_base.specs.declared.limit.Limit.TheVariants as limit

-- the area at index `place` belongs to the resource
abbrev pub HasPlace : List Area → Res → ℕ → Type 0
HasPlace areas res place = (area : Area) × (slice_get areas place ≡ Some area) × (area.res ≡ res)

-- the number of cells of all areas
abbrev pub word_count : List Area → ℕ
word_count areas = sum_by (λ a. a.length) areas

-- The areas follow one another from address 0 without gaps, and no resource has two areas.
pub record IsLaid (areas : List Area) : Type 0 where
  pub follows : (place : ℕ) (area : Area) → slice_get areas place ≡ Some area
      → area.first ≡ word_count (take place areas)
  pub apart : (p q : ℕ) (res : Res) → HasPlace areas res p → HasPlace areas res q → p ≡ q

-- the limit that the areas exceed, if any: first the limit on resources, then the limit on words
abbrev pub limit_passed : List Area → Option LimitHit
limit_passed areas =
    if nat_lt most_resources (length areas) then Some (record { limit = limit.Resources; line = 0 })
    else (if nat_lt most_words (word_count areas) then Some (record { limit = limit.Words; line = 0 }) else None)

-- A footprint in a layout of n areas has indices less than n, in ascending order without duplicates; every
-- resource that is written is also used.
pub record IsFootprint (n : ℕ) (f : Footprint) : Type 0 where
  pub uses : IsStrictlyIncreasing f.uses
  pub writes : IsStrictlyIncreasing f.writes
  pub within : (r : ℕ) → Contains f.uses r → r < n
  pub written : (r : ℕ) → Contains f.writes r → Contains f.uses r
