-- A voice that was inserted at the index that a search by number returns has joined, and then all are in
-- order.
use Rattle.std.proofs.Common.{◌≡◌, ℕ, ◌≤◌, ◌<◌, true, false, List, length, get_or, arith, leb, leb-true, subst, sym}
use Rattle.std.specs.List.{insert}
use Rattle.std.specs.List.Sorted.{IsNonDecreasingBy, IsPartitionPoint}
use Rattle.std.proofs.lemmas.{Bool.Decides.nat_tests, List.Sorted.IsNonDecreasingBy-insert}
use Rattle.cs_life.specs.inner.Roster.{Joined}

above : (x y : ℕ) → leb x y ≡ false → y < x
above x y not_so = grind (arith, nat_tests)

module _ {V : Type 0} (n : V → ℕ) where
  pub joined_at : (xs : List V) (v : V) (after : List V) (place number : ℕ) → number ≡ n v → place ≤ length xs
      → IsPartitionPoint (λ y. leb (n y) number ≡ true) (λ y. leb (n y) number ≡ false) xs place
      → after ≡ insert xs place v → Joined n v xs after
  joined_at xs v after place number same within point is = record {
    place = place;
    within = within;
    lower = λ k d from to.
        subst (λ m. n (get_or xs k d) ≤ m) same (leb-true (n (get_or xs k d)) number (point.0 k d from to));
    higher = λ k d from to.
        subst (λ m. m < n (get_or xs k d)) same (above (n (get_or xs k d)) number (point.1 k d from to));
    is = is;
  }

  -- voices are still in order after one has joined
  pub still_in_order : (voices : List V) (v : V) (after : List V) → IsNonDecreasingBy n voices → Joined n v voices after
      → IsNonDecreasingBy n after
  still_in_order voices v after order j =
      subst (λ xs. IsNonDecreasingBy n xs) (sym j.is)
      (IsNonDecreasingBy-insert n voices j.place v order j.within
      (λ k d lt. j.lower k d (omega arith) lt)
      (λ k d ge lt. let h = j.higher k d ge lt in omega (arith, h)))
