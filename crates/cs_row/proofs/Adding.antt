-- The sums of rows, added up one row after another.
use Rattle.std.proofs.lemmas.{Grind.common_steps, Bool.Decides.nat_tests, Int.ints, List.Concat.flat_map-append}
use Rattle.std.proofs.Common.{◌≡◌, ◌<◌, ◌≤◌, ◌+◌, ◌+ℤ◌, get_or, ℕ, zero, suc, ℤ, pos, List, [], ◌∷◌, ◌++◌, length, map}
use Rattle.std.proofs.Common.{take, sym, ap, ◌∙◌, subst, arith, append-nil, to_z, of_z, w64, false, nat_lt, ◌==◌, ◌≢◌}
use Rattle.std.proofs.Math.IntN.{+ℤ_assoc, +ℤ_idl, +ℤ_idr}
use Rattle.std.proofs.lemmas.List.{length-append, map-append, take_more}
use Rattle.cs_base.specs.{Limits.most_notes, Numbers.total}
use Rattle.cs_row.specs.{Heard.HeardRow, Heard.IsSumOf, Laws.all_notes}

pub nothing_small : (n : ℕ) → IsSumOf n (pos 0)
nothing_small n = record { low = omega (arith, ints); high = omega (arith, ints) }

-- what tests of numbers show
pub apart : (m n : ℕ) → (m == n) ≡ false → m ≢ n
apart m n h = grind (arith, nat_tests)

pub no_lower : (m n : ℕ) → nat_lt m n ≡ false → n ≤ m
no_lower m n h = grind (arith, nat_tests)

-- a sum of the profile's numbers fits into a word
pub read_back : (n : ℕ) (z : ℤ) → IsSumOf n z → n ≤ most_notes → to_z w64 (of_z w64 z) ≡ z
read_back n z s few = omega (arith, ints, s.low, s.high, few)

pub both_small : (n m : ℕ) (x y : ℤ) → IsSumOf n x → IsSumOf m y → IsSumOf (m + n) (y +ℤ x)
both_small n m x y s t = record {
  low = omega (arith, ints, s.low, t.low);
  high = omega (arith, ints, s.high, t.high);
}

pub total_push : (zs : List ℤ) (z : ℤ) → total (zs ++ z ∷ []) ≡ total zs +ℤ z
total_push [] z = +ℤ_idr z ∙ sym (+ℤ_idl z)
total_push (x ∷ zs) z = ap (λ (y : ℤ). x +ℤ y) (total_push zs z) ∙ sym (+ℤ_assoc x (total zs) z)

module _ {J : Type 0} (rows : List (HeardRow J)) (at : ℕ) (row : HeardRow J) (low : at < length rows)
    (is : row ≡ get_or rows at row) where
  more : take (at + 1) rows ≡ take at rows ++ row ∷ []
  more = take_more rows at row low ∙ ap (λ (r : HeardRow J). take at rows ++ r ∷ []) (sym is)

  pub total_more : (f : HeardRow J → ℤ)
      → total (map f (take (at + 1) rows)) ≡ total (map f (take at rows)) +ℤ f row
  total_more f = grind (arith, common_steps, map-append, more, total_push)

  pub notes_more : length (all_notes (take (at + 1) rows)) ≡ length (all_notes (take at rows)) + length row.jobs
  notes_more = grind (arith, common_steps, append-nil, flat_map-append, length-append, map-append, more)

  -- no more than all notes together
  pub notes_within : length (all_notes (take at rows)) + length row.jobs ≤ length (all_notes rows)
  notes_within = subst (λ (n : ℕ). n ≤ length (all_notes rows)) notes_more (fewer rows (at + 1))
    where
      fewer : (rs : List (HeardRow J)) (n : ℕ) → length (all_notes (take n rs)) ≤ length (all_notes rs)
      fewer [] zero = omega arith
      fewer [] (suc n) = omega arith
      fewer (r ∷ rs) zero = omega arith
      fewer (r ∷ rs) (suc n) =
          let less = fewer rs n in
          let one = length-append r.jobs (all_notes (take n rs)) in
          let all = length-append r.jobs (all_notes rs) in
          omega (arith, less, one, all)
