-- The greatest absolute value of a list.
use Rattle.std.proofs.Common.{◌≡◌, ℕ, zero, suc, ◌+◌, ◌<◌, ◌≤◌, max, List, [], ◌∷◌, ◌++◌, get_or, take, length, ℤ}
use Rattle.std.proofs.Common.{unsigned_abs, map, drop, arith}
use Rattle.std.proofs.lemmas.{List.take_more, Bool.Decides.nat_tests, Grind.common_steps}
use Rattle.std.specs.Ordering.{ord_max, nat_cmp}
use Rattle.cs_gen.specs.Points.{greatest}

greatest-snoc : (xs : List ℤ) (x : ℤ) → greatest (xs ++ x ∷ []) ≡ max (greatest xs) (unsigned_abs x)
greatest-snoc [] x = omega arith
greatest-snoc (y ∷ ys) x = let more = greatest-snoc ys x in omega (arith, more)

-- the greatest absolute value after one more value
pub greatest-more : (xs : List ℤ) (i : ℕ) (x : ℤ) (most size more : ℕ) → i < length xs → most ≡ greatest (take i xs)
    → x ≡ get_or xs i x →
    size ≡ unsigned_abs x → more ≡ max most size → more ≡ greatest (take (i + 1) xs)
greatest-more xs i x most size more h e p s m =
    let step = take_more xs i x h in
    let snoc = greatest-snoc (take i xs) (get_or xs i x) in
    rw step (rw snoc (rw (← p) (rw (← e) (rw (← s) m))))

-- no absolute value exceeds the greatest
pub at_most_greatest : (xs : List ℤ) (i : ℕ) (d : ℤ) → i < length xs → unsigned_abs (get_or xs i d) ≤ greatest xs
at_most_greatest [] i d h = absurd (omega arith)
at_most_greatest (x ∷ xs) zero d h = omega arith
at_most_greatest (x ∷ xs) (suc i) d h = let rest = at_most_greatest xs i d (omega arith) in omega arith

pub larger : (a b : ℕ) → ord_max nat_cmp a b ≡ max a b
larger a b = grind (arith, nat_tests)

-- a value that the loop hasn't reached yet is unchanged
pub still : (f : ℤ → ℤ) (xs ys : List ℤ) (i : ℕ) (d : ℤ) → i < length xs → ys ≡ map f (take i xs) ++ drop i xs
    → get_or ys i d ≡ get_or xs i d
still f xs ys i d h e = rw e (grind (arith, common_steps))
