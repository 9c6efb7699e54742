-- Indexes of frames that are filled channel by channel.
use Rattle.std.proofs.Common.{◌≡◌, ℕ, zero, suc, ℤ, pos, ◌+◌, ◌-◌, ◌*◌, ◌/◌, ◌<◌, ◌≤◌, ◌≢◌, ◌==◌, List, [], ◌∷◌, ◌++◌}
use Rattle.std.proofs.Common.{length, get_or, map, take, drop, replicate, slice_set, refl, sym, ◌∙◌, ap, subst, arith}
use Rattle.std.specs.List.{flat_map, range_with_len}
use Rattle.std.proofs.Math.Nat.{mul-le-mul}
use Rattle.std.proofs.lemmas.{Bool.eqb-true, Bool.Decides.nat_tests, Nat.div-mul-add}
use Rattle.std.proofs.lemmas.List.{get_or-set_same, get_or-set_other, get_or-take, get_or-drop, length-take}
use Rattle.std.proofs.lemmas.List.{length-drop, take-append-drop, ext_get_or}
use Rattle.std.proofs.lemmas.List.FromFn.{get_or-map-range_with_len, length-map-range_with_len}
use Rattle.cs_base.proofs.Tests.{by_test}
use Rattle.cs_machine.proofs.Frames.{apart}
use Rattle.cs_voice.specs.inner.Places.{place}

-- An index in rows of n belongs to one row and one column.
pub one_frame : (n i j c d : ℕ) → c < n → d < n → i * n + c ≡ j * n + d → i ≡ j
one_frame n i j c d low high e = sym (div-mul-add i n c low) ∙ (ap (λ k. k / n) e ∙ div-mul-add j n d high)

pub one_channel : (n i j c d : ℕ) → c < n → d < n → i * n + c ≡ j * n + d → c ≡ d
one_channel n i j c d low high e =
    let i_is : i ≡ j = one_frame n i j c d low high e in
    let f : i * n + c ≡ i * n + d = subst (λ k. i * n + c ≡ k * n + d) (sym i_is) e in
    omega (arith, f)

-- the index is within the rows
pub within : (n frames j c : ℕ) → j < frames → c < n → j * n + c < frames * n
within n frames j c row column =
    let more : (j + 1) * n ≤ frames * n = mul-le-mul (omega arith) (omega arith) in
    let e : (j + 1) * n ≡ j * n + n = omega arith in
    omega (arith, more, e)

-- the element at an index is set to a number, and no other one changes
pub placed_here : (n : ℕ) (out : List ℤ) (j c : ℕ) (z : ℤ) → j * n + c < length out
    → place n (slice_set out (j * n + c) z) j c ≡ z
placed_here n out j c z low = get_or-set_same out (j * n + c) z (pos 0) low

pub placed_else : (n : ℕ) (out : List ℤ) (j c i d : ℕ) (z : ℤ) → i * n + d ≢ j * n + c
    → place n (slice_set out (j * n + c) z) i d ≡ place n out i d
placed_else n out j c i d z other = get_or-set_other out (j * n + c) (i * n + d) z (pos 0) other

pub other_frame : (n i j c : ℕ) → c < n → i ≢ j → i * n + c ≢ j * n + c
other_frame n i j c low other e = other (one_frame n i j c c low low e)

pub other_channel : (n i j c d : ℕ) → c < n → d < n → d ≢ c → i * n + d ≢ j * n + c
other_channel n i j c d low high other e = other (one_channel n i j d c high low e)

-- Numbers with a value for each index are the frames of these values.
all_rows : (n : ℕ) (f : ℕ → ℕ → ℤ) (frames a : ℕ) (out : List ℤ) → length out ≡ frames * n
    → ((j c : ℕ) → j < frames → c < n → place n out j c ≡ f (a + j) c)
    → out ≡ flat_map (λ j. map (f j) (range_with_len 0 n)) (range_with_len a frames)
all_rows n f zero a [] long each = refl
all_rows n f zero a (z ∷ out) long each = absurd (omega (arith, long))
all_rows n f (suc frames) a out long each =
    let whole : (suc frames) * n ≡ n + frames * n = omega arith in
    let first : take n out ≡ map (f a) (range_with_len 0 n) =
    ext_get_or (pos 0) (take n out) (map (f a) (range_with_len 0 n))
    (length-take n out ∙ (omega (arith, long, whole) ∙ sym (length-map-range_with_len (f a) 0 n)))
    (λ c low.
    let inside : c < n = omega (arith, low, length-take n out) in
    get_or-take n out c (pos 0) inside ∙ (subst (λ k. get_or out k (pos 0) ≡ f a c) (omega arith)
    (subst (λ k. place n out 0 c ≡ f k c) (omega arith) (each 0 c (omega arith) inside))
    ∙ sym (get_or-map-range_with_len (f a) 0 n c c (pos 0) inside (omega arith)))) in
    let rest : drop n out ≡ flat_map (λ j. map (f j) (range_with_len 0 n)) (range_with_len (a + 1) frames) =
    all_rows n f frames (a + 1) (drop n out) (length-drop n out ∙ omega (arith, long, whole))
    (λ j c row column.
    get_or-drop n out (j * n + c) (pos 0)
    ∙ (ap (λ k. get_or out k (pos 0)) (let e : n + (j * n + c) ≡ (suc j) * n + c = omega arith in e)
    ∙ (each (suc j) c (omega (arith, row)) column
    ∙ ap (λ k. f k c) (let e : a + suc j ≡ a + 1 + j = omega arith in e)))) in
    sym (take-append-drop n out) ∙ (λ i. first i ++ rest i)

-- Sums are written frame by frame from a frame on: the values of the frames up to this one, of those before,
-- and of the other channels.
module _ (n c from : ℕ) (sums before out : List ℤ) (j : ℕ) (z : ℤ) (low : c < n)
    (inside : (from + j) * n + c < length out) where
  pub put_more : z ≡ get_or sums j (pos 0) → ((i : ℕ) → i < j → place n out (from + i) c ≡ get_or sums i (pos 0))
      → (i : ℕ) → i < j + 1 → place n (slice_set out ((from + j) * n + c) z) (from + i) c ≡ get_or sums i (pos 0)
  put_more is done i h = by_test (i == j)
      (λ yes. let e : i ≡ j = eqb-true i j yes in
      ap (λ k. place n (slice_set out ((from + j) * n + c) z) (from + k) c) e
      ∙ (placed_here n out (from + j) c z inside ∙ (is ∙ ap (λ k. get_or sums k (pos 0)) (sym e))))
      (λ no. let other : i ≢ j = apart i j no in
      placed_else n out (from + j) c (from + i) c z
      (other_frame n (from + i) (from + j) c low (λ e. other (omega (arith, e))))
      ∙ done i (let m : i < j = grind (arith, nat_tests) in m))

  pub before_more : ((i : ℕ) → i < from → place n out i c ≡ place n before i c)
      → (i : ℕ) → i < from → place n (slice_set out ((from + j) * n + c) z) i c ≡ place n before i c
  before_more same i h =
      placed_else n out (from + j) c i c z (other_frame n i (from + j) c low (λ e. absurd (omega (arith, h, e))))
      ∙ same i h

  pub others_more : ((i d : ℕ) → d < n → d ≢ c → place n out i d ≡ place n before i d)
      → (i d : ℕ) → d < n → d ≢ c → place n (slice_set out ((from + j) * n + c) z) i d ≡ place n before i d
  others_more same i d high other =
      placed_else n out (from + j) c i d z (other_channel n i (from + j) c d low high other) ∙ same i d high other

-- frames counted from one of them on
pub from_frame : (P : ℕ → Type 0) (from count : ℕ) → ((j : ℕ) → j < count → P (from + j)) → (j : ℕ) → from ≤ j
    → j < from + count → P j
from_frame P from count h j low high =
    let e : from + (j - from) ≡ j = omega (arith, low) in subst P e (h (j - from) (omega (arith, low, high)))

-- a part of a row has the row's elements from an index on
pub part_at : (row : List ℤ) (from count j : ℕ) → j < count
    → get_or (take count (drop from row)) j (pos 0) ≡ get_or row (from + j) (pos 0)
part_at row from count j low = get_or-take count (drop from row) j (pos 0) low ∙ get_or-drop from row j (pos 0)

-- the elements of a list of zeros are zeros
pub zeros_have : (m k j : ℕ) → get_or (take k (replicate m (pos 0))) j (pos 0) ≡ pos 0
zeros_have zero (suc k) j = refl
zeros_have (suc m) (suc k) (suc j) = zeros_have m k j
zeros_have m k j = refl

pub all_frames : (n : ℕ) (f : ℕ → ℕ → ℤ) (frames : ℕ) (out : List ℤ) → length out ≡ frames * n
    → ((j c : ℕ) → j < frames → c < n → place n out j c ≡ f j c)
    → out ≡ flat_map (λ j. map (f j) (range_with_len 0 n)) (range_with_len 0 frames)
all_frames n f frames out long each =
    all_rows n f frames 0 out long
    (λ j c row column. each j c row column ∙ ap (λ k. f k c) (let e : j ≡ 0 + j = omega arith in e))
