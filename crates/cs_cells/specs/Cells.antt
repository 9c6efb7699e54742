use Rattle.std.specs.Prelude.{◌≡◌, ℕ, ℤ, pos, List, [], ◌∷◌, map, length, ◌+◌, ◌-◌, if◌then◌else◌, Bool, false}
use Rattle.std.specs.Prelude.{◌&&◌, ◌||◌, nat_le, nat_lt, Option, Some, None, slice_get, slice_index_or}
use Rattle.std.specs.Int.{cast_signed, w64}
use Rattle.cs_base.specs.Numbers.{clamp}
use Rattle.cs_cells.specs.declared.footprint.Area.{Area}

-- a word as a number: its 64 bits in two's complement, clamped to the range of numbers
abbrev pub signed : ℕ → ℤ
signed n = clamp (cast_signed w64 n)

-- the words as numbers
abbrev pub values : List ℕ → List ℤ
values ws = map signed ws

-- the value of each cell, by address
abbrev pub Cells : Type 0
Cells = List ℤ

-- the value of the cell at address a, or 0 if there is no such cell
abbrev pub cell : Cells → ℕ → ℤ
cell c a = slice_index_or c a (pos 0)

-- the cells after n values of a row were copied into them, starting at address `first`
abbrev pub with_row : ℕ → ℕ → (ℕ → ℤ) → (ℕ → ℤ) → ℕ → ℤ
with_row first n row cells a = if nat_le first a && nat_lt a (first + n) then row (a - first) else cells a

-- whether address a is in the area, if there is an area
abbrev pub in_area : Option Area → ℕ → Bool
in_area None a = false
in_area (Some area) a = nat_le area.first a && nat_lt a (area.first + area.length)

-- whether address a is in one of the areas with these indices
abbrev pub covers : List Area → List ℕ → ℕ → Bool
covers areas [] a = false
covers areas (place ∷ places) a = in_area (slice_get areas place) a || covers areas places a

-- two lists of cells have the same length, and the same value at each address that satisfies P
pub record Agree (P : ℕ → Type 0) (c d : Cells) : Type 0 where
  pub long : length c ≡ length d
  pub same : (a : ℕ) → P a → cell c a ≡ cell d a
