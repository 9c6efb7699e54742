-- A list of values that is stored in a ring.
use Rattle.std.specs.Prelude.{ℕ, ◌≡◌, ◌≢◌, ◌⊎◌, ◌-◌, ◌<◌, ◌≤◌, List, ◌++◌, length, drop, take, replicate, ℤ, pos}

-- in a ring of `len` places, the first place follows the last
abbrev pub IsWrapped : ℕ → ℕ → ℕ → Type 0
IsWrapped place len wrapped = ((place ≢ len) × (wrapped ≡ place)) ⊎ ((place ≡ len) × (wrapped ≡ 0))

-- the values of a ring in order, beginning with the oldest
abbrev pub in_order : List ℤ → ℕ → List ℤ
in_order ring oldest = drop oldest ring ++ take oldest ring

-- the values of a ring of `count` places, oldest first; a value that isn't stored yet is 0
abbrev pub line_in : ℕ → List ℤ → ℕ → List ℤ
line_in count ring oldest = replicate (count - length ring) (pos 0) ++ in_order ring oldest

-- a ring of `count` places is full; or it is being filled from its first place on, and has memory for all of
-- them
abbrev pub IsRing : ℕ → List ℤ → ℕ → ℕ → Type 0
IsRing count ring memory oldest =
    (oldest < count) × (length ring ≤ count) × ((count ≤ length ring) ⊎ ((oldest ≡ 0) × (count ≤ memory)))
