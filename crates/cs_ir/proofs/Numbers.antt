-- Sorting instruments by number.
use Rattle.std.proofs.Common.{◌≡◌, ℕ, List, [], ◌∷◌, length, get_or, eqb, arith}
use Rattle.std.specs.List.{IsDistinct}
use Rattle.std.specs.List.Sorted.{IsPermutation, IsStrictlyIncreasing, IsNonDecreasing, IsNonDecreasingBy}
use Rattle.std.proofs.lemmas.{Bool.Decides.nat_tests, List.get_or-map, List.length-map, List.Sorted.IsPermutation-map}
use Rattle.std.proofs.lemmas.Map.Keys.{IsDistinct-IsPermutation, IsStrictlyIncreasing-from_distinct}
use Rattle.cs_ir.specs.Instruments.{Numbered, numbers_of}

flips : (a b : ℕ) → eqb a b ≡ eqb b a
flips a b = grind (arith, nat_tests)

-- distinct numbers are strictly increasing after a sort
pub rising : (xs ys : List Numbered) → IsPermutation xs ys → IsNonDecreasing (numbers_of ys)
    → IsDistinct eqb (numbers_of xs) → IsStrictlyIncreasing (numbers_of ys)
rising xs ys p up d =
    IsStrictlyIncreasing-from_distinct (numbers_of ys) up
    (IsDistinct-IsPermutation eqb flips (numbers_of xs) (numbers_of ys) (IsPermutation-map (λ i. i.number) xs ys p) d)

-- a sort by number
pub sorted : (xs : List Numbered) → IsNonDecreasingBy (λ (i : Numbered). i.number) xs → IsNonDecreasing (numbers_of xs)
sorted [] h i j d le l = let no : ⊥ = omega arith in absurd no
sorted (x ∷ xs) h i j d le l =
    let long : length (numbers_of (x ∷ xs)) ≡ length (x ∷ xs) = length-map (x ∷ xs) (λ n. n.number) in
    let p = get_or-map (λ (n : Numbered). n.number) (x ∷ xs) i x d (omega (arith, long)) in
    let q = get_or-map (λ (n : Numbered). n.number) (x ∷ xs) j x d (omega (arith, long)) in
    let r = h i j x le (omega (arith, long)) in omega (arith, p, q, r)
