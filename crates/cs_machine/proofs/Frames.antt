-- Rows that are filled index by index, and the values that they have.
use Rattle.std.proofs.Common.{◌≡◌, ℕ, ℤ, pos, ◌+◌, ◌<◌, ◌≤◌, ◌≢◌, ◌==◌, false, List, length, take, drop, ◌++◌}
use Rattle.std.proofs.Common.{replicate, nat_lt, slice_index_or, slice_set, if◌then◌else◌, refl, sym, ◌∙◌, ap, arith}
use Rattle.std.proofs.{Common.subst, Common.ltb-true, Math.Seq.take-append_seam}
use Rattle.std.proofs.lemmas.{Bool.eqb-true, Bool.Decides.nat_tests, List.get_or-replicate, List.ext_get_or}
use Rattle.std.proofs.lemmas.List.{get_or-set_same, get_or-set_other, get_or_past, get_or_read, length-replicate}
use Rattle.std.proofs.lemmas.List.FromFn.{get_or-map-range_with_len, length-map-range_with_len}
use Rattle.cs_base.proofs.Tests.{by_test}
use Rattle.cs_ir.specs.Waves.{Wave, constant, held, silence}
use Rattle.cs_machine.specs.{Rows.Begins, Rows.HasFrames, Rows.row_wave, Rows.row_of, inner.Kept.Ends}
use Rattle.cs_signal.specs.Operands.{argument}
use Rattle.cs_base.specs.declared.resource.Rate.TheVariants as rate

pub apart : (m n : ℕ) → (m == n) ≡ false → m ≢ n
apart m n h = grind (arith, nat_tests)

-- one more index of a row has its frame
pub one_more : (w : Wave) (row : List ℤ) (j : ℕ) (z : ℤ) → j < length row → Begins j w row → z ≡ w j
    → Begins (j + 1) w (slice_set row j z)
one_more w row j z low done here i h = by_test (i == j)
    (λ yes. let e : i ≡ j = eqb-true i j yes in
    ap (λ m. argument (slice_set row j z) m) e ∙ get_or-set_same row j z (pos 0) low ∙ here ∙ ap w (sym e))
    (λ no. let n : i ≢ j = apart i j no in
    get_or-set_other row j i z (pos 0) n ∙ done i (let m : i < j = grind (arith, nat_tests) in m))

-- all indexes have theirs
pub all_done : (w : Wave) (row : List ℤ) (j n : ℕ) → length row ≡ n → n ≤ j → Begins j w row → HasFrames w row
all_done w row j n long far done i h = done i (omega (arith, long, far, h))

pub at_or_past : (j n : ℕ) → nat_lt j n ≡ false → n ≤ j
at_or_past j n h = grind (arith, nat_tests)

-- a row that has a value's frames holds that value for a cycle
pub row_held : (n : ℕ) (w : Wave) (row : List ℤ) → length row ≡ n → HasFrames w row → row_wave row ≡ held n rate.Audio w
row_held n w row long frames = λ i j. at j i
  where
    at : (j : ℕ) → row_wave row j ≡ held n rate.Audio w j
    at j = by_test (nat_lt j n)
        (λ yes. let low : j < n = ltb-true j n yes in
        frames j (omega (arith, low, long)) ∙ sym (ap (λ b. if b then w j else pos 0) yes))
        (λ no. let far : n ≤ j = at_or_past j n no in
        get_or_past row j (pos 0) (omega (arith, far, long)) ∙ sym (ap (λ b. if b then w j else pos 0) no))

-- a row that is held for a cycle is itself
pub held_row : (n : ℕ) (row : List ℤ) → length row ≡ n → held n rate.Audio (row_wave row) ≡ row_wave row
held_row n row long = sym (row_held n (row_wave row) row long (λ j h. refl))

-- a row of zeros is silent
pub zeros_silent : (n : ℕ) → row_wave (replicate n (pos 0)) ≡ silence
zeros_silent n = λ i j. at j i
  where
    at : (j : ℕ) → argument (replicate n (pos 0)) j ≡ pos 0
    at j = by_test (nat_lt j n)
        (λ yes. let low : j < n = ltb-true j n yes in get_or-replicate n j (pos 0) (pos 0) low)
        (λ no. let far : n ≤ j = at_or_past j n no in
        get_or_past (replicate n (pos 0)) j (pos 0)
        (let e : length (replicate n (pos 0)) ≡ n = length-replicate n (pos 0) in omega (arith, far, e)))

-- a row is the row of its frames
pub row_again : (n : ℕ) (row : List ℤ) → length row ≡ n → row_of n (row_wave row) ≡ row
row_again n row long = ext_get_or (pos 0) (row_of n (row_wave row)) row
    (length-map-range_with_len (row_wave row) 0 n ∙ sym long)
    (λ i h. get_or-map-range_with_len (row_wave row) 0 n i i (pos 0)
    (let e : length (row_of n (row_wave row)) ≡ n = length-map-range_with_len (row_wave row) 0 n in omega (arith, h, e))
    (omega arith))

-- setting one element of a row doesn't change those after it
pub others_kept : (j : ℕ) (before row : List ℤ) (z : ℤ) → Ends j before row → Ends (j + 1) before (slice_set row j z)
others_kept j before row z same i h = get_or-set_other row j i z (pos 0) (behind i j h) ∙ same i (omega (arith, h))
  where
    behind : (i j : ℕ) → j + 1 ≤ i → i ≢ j
    behind i j h e = absurd (omega (arith, h, e))

-- a row filled with one number
pub filled_row : (n : ℕ) (z : ℤ) → HasFrames (constant z) (replicate n z)
filled_row n z j h = get_or-replicate n j z (pos 0)
    (let e : length (replicate n z) ≡ n = length-replicate n z in omega (arith, h, e))

-- a row has the frames of another value that is the same there
pub frames_as : (w v : Wave) (row : List ℤ) → HasFrames w row → ((j : ℕ) → w j ≡ v j) → HasFrames v row
frames_as w v row h same j low = h j low ∙ same j

-- an item as it is read
pub item_is : (xs : List ℤ) (j : ℕ) (x : ℤ) → j < length xs → x ≡ slice_index_or xs j x → x ≡ argument xs j
item_is xs j x low is = get_or_read xs j x low is (pos 0)

-- a vector all of whose items were overwritten has the new items
pub all_written : {A : Type 0} (n : ℕ) (new old : List A) → length new ≡ n → take n (new ++ drop (length new) old) ≡ new
all_written n new old long =
    ap (λ k. take k (new ++ drop (length new) old)) (sym long) ∙ take-append_seam new (drop (length new) old)

-- the vector has the frames that were written
pub vector_frames : (w : Wave) (n : ℕ) (new old : List ℤ) → length new ≡ n → HasFrames w new
    → HasFrames w (take n (new ++ drop (length new) old))
vector_frames w n new old long = subst (HasFrames w) (sym (all_written n new old long))

-- the vector has as many items as were written
pub vector_long : (n k : ℕ) (new old : List ℤ) → length new ≡ n → length new ≡ k
    → length (take n (new ++ drop (length new) old)) ≡ k
vector_long n k new old long is = ap length (all_written n new old long) ∙ is
