use Rattle.std.specs.Prelude.{ℕ, ◌≡◌, ◌-◌, ◌*◌, ◌/◌, ◌%◌, ◌^◌, max, min, nat_le, ℤ, nat_abs, List, [], ◌∷◌, ◌++◌}
use Rattle.std.specs.Prelude.{length, take, replicate, flat_map, codes, decimal, if◌then◌else◌}
use Rattle.std.specs.{Fmt.signed_decimal, Str.byte}

-- the greatest absolute value in a list; 0 if it is empty
abbrev pub peak_of : List ℤ → ℕ
peak_of [] = 0
peak_of (z ∷ zs) = max (nat_abs z) (peak_of zs)

-- a number below 100,000 in five digits, with leading zeros
abbrev pub five_digits : ℕ → List ℕ
five_digits n = replicate (5 - length (decimal n)) (byte "0") ++ decimal n

-- the line of a peak: the integer part, a point, and the fraction of 65,536 in five digits
unfoldable pub peak_line : ℕ → List ℕ
peak_line m =
    codes "peak " ++ (decimal (m / 65536) ++ (codes "." ++ (five_digits (m % 65536 * 100000 / 65536) ++ codes "\n")))

-- the text if it fits into `room` bytes, and nothing otherwise
abbrev pub fitting : ℕ → List ℕ → List ℕ
fitting room text = if nat_le (length text) room then text else []

-- the contents of a mirror with this room after a list of mix values: its first values, and the number of
-- values
pub record IsMirrorOf (room : ℕ) (kept : List ℤ) (count : ℕ) (h : List ℤ) : Type 0 where
  pub first : kept ≡ take room h
  pub counted : count ≡ min (length h) (2 ^ 64 - 1)

-- a stored value, after a blank
abbrev pub mirror_value : ℤ → List ℕ
mirror_value z = codes " " ++ signed_decimal z

-- the line of a mirror: the number of values taken, and the values that it stored
unfoldable pub mirror_line : List ℤ → ℕ → List ℕ
mirror_line kept count = codes "mirror " ++ (decimal count ++ (flat_map mirror_value kept ++ codes "\n"))

-- the line of a mirror if there is room for it; otherwise the line without values if there is room for that
-- one
abbrev pub mirror_text : List ℤ → ℕ → ℕ → List ℕ
mirror_text kept count room =
    if nat_le (length (mirror_line kept count)) room
    then mirror_line kept count
    else fitting room (mirror_line [] count)
