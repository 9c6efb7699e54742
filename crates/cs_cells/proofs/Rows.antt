-- Cells that are read into a row and set from a row, one by one.
use Rattle.std.proofs.lemmas.{Grind.common_steps, Bool.eqb-true, Bool.and_from, Bool.Decides.nat_tests}
use Rattle.std.proofs.Common.{◌≡◌, ◌≢◌, ℕ, ◌+◌, ◌-◌, ◌<◌, ◌≤◌, ◌==◌, ◌&&◌, true, false, List, if◌then◌else◌, length}
use Rattle.std.proofs.Common.{map, take, ℤ, set, slice_set, nat_le, nat_lt, ap, sym, ◌∙◌, arith}
use Rattle.std.specs.List.{range_with_len}
use Rattle.std.proofs.lemmas.List.{take_more_set, take_all, get_or-set_same, get_or-set_other}
use Rattle.std.proofs.lemmas.List.FromFn.{map-range_with_len_more}
use Rattle.cs_base.proofs.Tests.{by_test}
use Rattle.cs_cells.specs.Cells.{cell, with_row}

-- after one more read, the first j + 1 values of a row are the values of f from `first` on
pub read_more : (f : ℕ → ℤ) (row : List ℤ) (first j : ℕ) (z : ℤ) → j < length row
    → take j row ≡ map f (range_with_len first j) → z ≡ f (first + j)
    → take (j + 1) (set row j z) ≡ map f (range_with_len first (j + 1))
read_more f row first j z below so_far is = grind (arith, common_steps, map-range_with_len_more, take_more_set)

pub read_all : (f : ℕ → ℤ) (row : List ℤ) (first n j : ℕ) → length row ≡ n → n ≤ j → j ≤ n
    → take j row ≡ map f (range_with_len first j) → row ≡ map f (range_with_len first n)
read_all f row first n j long done within so_far = grind (arith, common_steps, take_all)

-- a test for an address, and the value of the cell there
apart : (m n : ℕ) → (m == n) ≡ false → m ≢ n
apart m n h = grind (arith, nat_tests)

pub set_cell : (c : List ℤ) (k : ℕ) (z : ℤ) (a : ℕ) → k < length c
    → cell (slice_set c k z) a ≡ (if a == k then z else cell c a)
set_cell c k z a low = grind (arith, common_steps, apart, by_test, eqb-true, get_or-set_other, get_or-set_same)

-- an empty range contains no address
not_among : (f a : ℕ) → (nat_le f a && nat_lt a (f + 0)) ≡ false
not_among f a = grind (arith, common_steps, by_test, nat_le, nat_lt, nat_tests)

pub with_row_none : (first : ℕ) (w cells : ℕ → ℤ) → cells ≡ with_row first 0 w cells
with_row_none first w cells = λ i a. sym (ap (λ b. if b then w (a - first) else cells a) (not_among first a)) i

-- one more cell
beyond : (m a : ℕ) → a ≢ m → m ≤ a → m + 1 ≤ a
beyond m a n l = grind (arith, common_steps, by_test, eqb-true, nat_tests)

further : (f j a : ℕ) → a ≢ f + j → nat_lt a (f + j) ≡ false → nat_lt a (f + (j + 1)) ≡ false
further f j a n far = grind (arith, common_steps, beyond, nat_tests)

more_in : (f j a : ℕ) → a ≢ f + j → (nat_le f a && nat_lt a (f + j)) ≡ (nat_le f a && nat_lt a (f + (j + 1)))
more_in f j a n = grind (arith, common_steps, by_test, further, nat_le, nat_lt, nat_tests)

last_in : (f j a : ℕ) → a ≡ f + j → (nat_le f a && nat_lt a (f + (j + 1))) ≡ true
last_in f j a e = and_from (nat_le f a) (nat_lt a (f + (j + 1))) (grind (arith, nat_tests))
    (grind (arith, nat_tests))

taken_off : (f j a : ℕ) → a ≡ f + j → a - f ≡ j
taken_off f j a e = omega (arith, e)

pub with_row_more : (c : List ℤ) (cells : ℕ → ℤ) (first j : ℕ) (w : ℕ → ℤ) (z : ℤ) → cell c ≡ with_row first j w cells
    → first + j < length c → z ≡ w j → cell (slice_set c (first + j) z) ≡ with_row first (j + 1) w cells
with_row_more c cells first j w z before low is = λ i a. at a i
  where
    at : (a : ℕ) → cell (slice_set c (first + j) z) a ≡ with_row first (j + 1) w cells a
    at a = set_cell c (first + j) z a low ∙ by_test (a == first + j)
        (λ yes. let e : a ≡ first + j = eqb-true a (first + j) yes in
        ap (λ b. if b then z else cell c a) yes ∙ is ∙ ap w (sym (taken_off first j a e))
        ∙ sym (ap (λ b. if b then w (a - first) else cells a) (last_in first j a e)))
        (λ no. ap (λ b. if b then z else cell c a) no ∙ ap (λ f. f a) before
        ∙ ap (λ b. if b then w (a - first) else cells a) (more_in first j a (apart a (first + j) no)))
