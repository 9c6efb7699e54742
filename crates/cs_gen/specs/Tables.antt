-- The properties of a made table, for definitions that read it by place.
use Rattle.std.specs.Prelude.{◌≡◌, ℕ, ◌+◌, ◌<◌, ◌≤◌, List, [], ◌∷◌, ◌++◌, length, take, ℤ, pos, slice_index_or}
use Rattle.cs_gen.specs.Points.{guard_place, len_of, point, points_of}

-- a table as interpolation reads it: its `len` points, followed by the guard point
abbrev pub curve_of : List ℤ → List ℤ
curve_of points =
    take (len_of (length points)) points ++ slice_index_or points (guard_place (length points)) (pos 0) ∷ []

-- a made table has as many points as its size, each by its formula; its curve has one point more than its
-- length
pub record IsMade (size gen : ℤ) (args points : List ℤ) : Type 0 where
  pub count : pos (length points) ≡ size
  pub fewest : 2 ≤ length points
  pub most : length points ≤ 65537
  pub all : points ≡ points_of size gen args
  pub each : (j : ℕ) → j < length points → slice_index_or points j (pos 0) ≡ point size gen args j
  pub long : length (curve_of points) ≡ len_of (length points) + 1
  pub curve : (j : ℕ) → j < len_of (length points)
      → slice_index_or (curve_of points) j (pos 0) ≡ point size gen args j
  pub guard : slice_index_or (curve_of points) (len_of (length points)) (pos 0)
      ≡ point size gen args (guard_place (length points))
