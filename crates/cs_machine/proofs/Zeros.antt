-- Areas that are cleared with rows of zeros, one after the other.
use Rattle.std.proofs.Common.{◌≡◌, ◌∙◌, ◌+◌, ◌-◌, ◌&&◌, ℕ, ℤ, true, false, ap, arith, get_or, if◌then◌else◌, leb-true}
use Rattle.std.proofs.Common.{length, ltb-true, min, nat_le, nat_lt, pos, replicate, sym, take}
use Rattle.std.proofs.lemmas.Bool.{and_from, and_parts, both_ways, Decides.nat_tests}
use Rattle.std.proofs.lemmas.List.{get_or-replicate, get_or_past, length-replicate, take-replicate}
use Rattle.cs_base.proofs.Tests.{by_test}
use Rattle.cs_cells.specs.Cells.{cell, with_row}
use Rattle.cs_ir.specs.Waves.{silence}

-- a prefix of a row of zeros
pub front_of_zeros : (z : ℤ) (count most left : ℕ) → count ≡ min most left
    → take count (replicate most z) ≡ replicate count z
front_of_zeros z count most left is = take-replicate count most z (omega (arith, is))

pub front_long : (z : ℤ) (count most left : ℕ) → count ≡ min most left → length (take count (replicate most z)) ≡ count
front_long z count most left is = ap length (front_of_zeros z count most left is) ∙ length-replicate count z

zero_at : (n k : ℕ) (z : ℤ) → z ≡ pos 0 → get_or (replicate n z) k (pos 0) ≡ pos 0
zero_at n k z is = by_test (nat_lt k n) (λ yes. get_or-replicate n k z (pos 0) (ltb-true k n yes) ∙ is)
    (λ past. get_or_past (replicate n z) k (pos 0) (grind (arith, nat_tests, length-replicate)))

-- an address is among the first j + n places if it is among the first j or among the n after them
module _ (f j n a : ℕ) where
  later : (nat_le (f + j) a && nat_lt a (f + j + n)) ≡ true → (nat_le f a && nat_lt a (f + (j + n))) ≡ true
  later h =
      let both = and_parts (nat_le (f + j) a) (nat_lt a (f + j + n)) h in
      let low = leb-true (f + j) a both.0 in
      let high = ltb-true a (f + j + n) both.1 in
      and_from (nat_le f a) (nat_lt a (f + (j + n))) (grind (arith, nat_tests, low)) (grind (arith, nat_tests, high))

  earlier : (nat_le f a && nat_lt a (f + j)) ≡ true → (nat_le f a && nat_lt a (f + (j + n))) ≡ true
  earlier h =
      let both = and_parts (nat_le f a) (nat_lt a (f + j)) h in
      let high = ltb-true a (f + j) both.1 in
      and_from (nat_le f a) (nat_lt a (f + (j + n))) both.0 (grind (arith, nat_tests, high))

  neither : (nat_le (f + j) a && nat_lt a (f + j + n)) ≡ false → (nat_le f a && nat_lt a (f + j)) ≡ false
      → (nat_le f a && nat_lt a (f + (j + n))) ≡ false
  neither not_later not_earlier = by_test (nat_le f a && nat_lt a (f + (j + n)))
      (λ yes. let both = and_parts (nat_le f a) (nat_lt a (f + (j + n))) yes in
      let high = ltb-true a (f + (j + n)) both.1 in
      by_test (nat_lt a (f + j)) (λ front. absurd (both_ways (nat_le f a && nat_lt a (f + j)) not_earlier
      (and_from (nat_le f a) (nat_lt a (f + j)) both.0 front)))
      (λ back. absurd (both_ways (nat_le (f + j) a && nat_lt a (f + j + n)) not_later
      (and_from (nat_le (f + j) a) (nat_lt a (f + j + n)) (grind (arith, nat_tests))
      (grind (arith, nat_tests, high)))))) (λ no. no)

-- after places that were cleared, a row of zeros clears the next n
pub cleared_more : (cells : ℕ → ℤ) (f j n : ℕ) (z : ℤ) (before now : ℕ → ℤ) → z ≡ pos 0
    → before ≡ with_row f j silence cells
    → now ≡ with_row (f + j) (length (replicate n z)) (cell (replicate n z)) before
    → now ≡ with_row f (j + n) silence cells
cleared_more cells f j n z before now is so_far more =
    more ∙ ap (λ m. with_row (f + j) m (cell (replicate n z)) before) (length-replicate n z) ∙ (λ i a. at a i)
  where
    at : (a : ℕ) → with_row (f + j) n (cell (replicate n z)) before a ≡ with_row f (j + n) silence cells a
    at a = by_test (nat_le (f + j) a && nat_lt a (f + j + n))
        (λ yes. ap (λ b. if b then cell (replicate n z) (a - (f + j)) else before a) yes ∙ zero_at n (a - (f + j)) z is
        ∙ sym (ap (λ b. if b then pos 0 else cells a) (later f j n a yes)))
        (λ no. ap (λ b. if b then cell (replicate n z) (a - (f + j)) else before a) no ∙ ap (λ c. c a) so_far
        ∙ by_test (nat_le f a && nat_lt a (f + j)) (λ front. ap (λ b. if b then pos 0 else cells a) front
        ∙ sym (ap (λ b. if b then pos 0 else cells a) (earlier f j n a front)))
        (λ out. ap (λ b. if b then pos 0 else cells a) out
        ∙ sym (ap (λ b. if b then pos 0 else cells a) (neither f j n a no out))))
