-- The points of a table. Each is a formula of its place alone.
use Rattle.std.specs.Prelude.{ℕ, ◌+◌, ◌-◌, ◌*◌, ◌/◌, ◌%◌, ◌^◌, max, sum, ◌==◌, nat_lt, nat_le, List, [], ◌∷◌, length}
use Rattle.std.specs.Prelude.{map, ℤ, pos, neg_ℤ, ◌+ℤ◌, ◌-ℤ◌, ◌*ℤ◌, unsigned_abs, int_lt, slice_index, if◌then◌else◌}
use Rattle.std.specs.List.{position_or_len, range_with_len}
use Rattle.cs_base.specs.Numbers.{clamp, floor_div, one, total, whole_below}
use Rattle.cs_gen.specs.Faults.{argument, segments_of}

-- the height of the sine wave at its crest
abbrev pub full_scale : ℤ
full_scale = pos 32767

-- the length of a table of this size: the size itself, or one less if the size is odd
abbrev pub len_of : ℕ → ℕ
len_of size = size - size % 2

-- the rising quarter of a sine wave of 256 places, from place 0 to place 64
unfoldable pub quarter : List ℕ
quarter =
    0 ∷ 804 ∷ 1608 ∷ 2410 ∷ 3212 ∷ 4011 ∷ 4808 ∷ 5602 ∷
    6393 ∷ 7179 ∷ 7962 ∷ 8739 ∷ 9512 ∷ 10278 ∷ 11039 ∷ 11793 ∷
    12539 ∷ 13279 ∷ 14010 ∷ 14732 ∷ 15446 ∷ 16151 ∷ 16846 ∷ 17530 ∷
    18204 ∷ 18868 ∷ 19519 ∷ 20159 ∷ 20787 ∷ 21403 ∷ 22005 ∷ 22594 ∷
    23170 ∷ 23731 ∷ 24279 ∷ 24811 ∷ 25329 ∷ 25832 ∷ 26319 ∷ 26790 ∷
    27245 ∷ 27683 ∷ 28105 ∷ 28510 ∷ 28898 ∷ 29268 ∷ 29621 ∷ 29956 ∷
    30273 ∷ 30571 ∷ 30852 ∷ 31113 ∷ 31356 ∷ 31580 ∷ 31785 ∷ 31971 ∷
    32137 ∷ 32285 ∷ 32412 ∷ 32521 ∷ 32609 ∷ 32678 ∷ 32728 ∷ 32757 ∷
    32767 ∷ []

-- the wave at one of its 256 places: the rising quarter, the quarter mirrored, then both with their sign
-- changed
unfoldable pub wave_at : ℕ → ℤ
wave_at g =
    if nat_le g 64 then pos (slice_index quarter g)
    else if nat_le g 128 then pos (slice_index quarter (128 - g))
    else if nat_le g 192 then neg_ℤ (pos (slice_index quarter (g - 128)))
    else neg_ℤ (pos (slice_index quarter (256 - g)))

-- the wave at phase w, in 2^24ths of its period, interpolated between the two neighbouring places
unfoldable pub wave : ℕ → ℤ
wave w =
    let here = wave_at (w / 65536) in
    let next = wave_at ((w / 65536 + 1) % 256) in
    here +ℤ floor_div ((next -ℤ here) *ℤ pos (w % 65536)) (pos 65536)

-- harmonic h of a table of len points, at place j
unfoldable pub sine : ℕ → ℕ → ℕ → ℤ
sine len h j = wave ((h * j) % len * 2 ^ 24 / len)

-- GEN10 at place j, before it is clamped: the sum of each harmonic times its strength
unfoldable pub harmonics : ℕ → List ℤ → ℕ → ℤ
harmonics len strengths j =
    total (map (λ h. floor_div (argument strengths (h - 1) *ℤ sine len h j) full_scale)
    (range_with_len 1 (length strengths)))

-- GEN07: the length of segment k in points
abbrev pub length_of : List ℤ → ℕ → ℕ
length_of args k = unsigned_abs (whole_below (argument args (2 * k + 1)))

-- the place at which segment k begins: the sum of the lengths of the segments before it
unfoldable pub begin_of : List ℤ → ℕ → ℕ
begin_of args k = sum (map (length_of args) (range_with_len 0 k))

-- the index of the first segment that ends after place j, or the number of segments if none does
unfoldable pub segment_at : List ℤ → ℕ → ℕ
segment_at args j =
    position_or_len (λ k. nat_lt j (begin_of args (k + 1))) (range_with_len 0 (segments_of args))

-- the value at which segment k begins, which is also the value at which segment k - 1 ends
abbrev pub value_of : List ℤ → ℕ → ℤ
value_of args k = argument args (2 * k)

-- GEN07 at place j: a point on the line of the segment there; the last value at the place right after the
-- last segment; 0 beyond that place
unfoldable pub segments : List ℤ → ℕ → ℤ
segments args j =
    let k = segment_at args j in
    let into = j - begin_of args k in
    if nat_lt k (segments_of args)
    then value_of args k +ℤ floor_div ((value_of args (k + 1) -ℤ value_of args k) *ℤ pos into) (pos (length_of args k))
    else if into == 0 then value_of args k else pos 0

-- the point at place j by the formula of GEN02, GEN07 or GEN10, before it is normalised
unfoldable pub plain_point : ℕ → ℕ → List ℤ → ℕ → ℤ
plain_point size gen args j =
    if gen == 2 then argument args j
    else if gen == 7 then segments args j
    else clamp (harmonics (len_of size) args j)

-- the greatest absolute value in a list, or 0 if the list is empty
abbrev pub greatest : List ℤ → ℕ
greatest [] = 0
greatest (z ∷ zs) = max (unsigned_abs z) (greatest zs)

-- the value v, scaled so that the greatest absolute value m becomes 1
abbrev pub normalised : ℕ → ℤ → ℤ
normalised m v = if m == 0 then v else floor_div (v *ℤ one) (pos m)

-- the values of f at the first n places
abbrev pub at_places : ℕ → (ℕ → ℤ) → List ℤ
at_places n f = map f (range_with_len 0 n)

-- point j of a table; if the GEN is positive, it is normalised
unfoldable pub point : ℤ → ℤ → List ℤ → ℕ → ℤ
point size gen args j =
    let plain : ℕ → ℤ = plain_point (unsigned_abs size) (unsigned_abs gen) args in
    let kept = at_places (unsigned_abs size) plain in
    if int_lt (pos 0) gen then normalised (greatest kept) (plain j) else plain j

-- all points of a table
unfoldable pub points_of : ℤ → ℤ → List ℤ → List ℤ
points_of size gen args = at_places (unsigned_abs size) (point size gen args)

-- the place of the guard point: the last place if the size is one more than a power of two, place 0 otherwise
abbrev pub guard_place : ℕ → ℕ
guard_place size = if size % 2 == 1 then size - 1 else 0
