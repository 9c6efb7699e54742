-- Two lists added value by value, from the beginning.
use Rattle.std.proofs.lemmas.{Grind.common_steps, Bool.eqb-true, Bool.Decides.nat_tests}
use Rattle.std.proofs.Common.{◌≡◌, ℕ, zero, suc, ◌<◌, ℤ, pos, ◌+ℤ◌, List, [], ◌∷◌, ◌++◌, length, take, drop, get_or}
use Rattle.std.proofs.Common.{set, refl, ap, arith, ◌+◌}
use Rattle.cs_base.specs.Numbers.{IsRaw}
use Rattle.cs_base.proofs.Tests.{by_test}
use Rattle.cs_wav.specs.Wav.{added}

-- the value at the first index that has not been added yet
pub get_or-part_added : (xs ys : List ℤ) (i : ℕ) → length xs ≡ length ys
    → get_or (take i (added xs ys) ++ drop i xs) i (pos 0) ≡ get_or xs i (pos 0)
get_or-part_added [] ys zero e = refl
get_or-part_added [] ys (suc i) e = refl
get_or-part_added (x ∷ xs) [] i e = absurd (omega arith)
get_or-part_added (x ∷ xs) (y ∷ ys) zero e = refl
get_or-part_added (x ∷ xs) (y ∷ ys) (suc i) e = get_or-part_added xs ys i (omega arith)

-- one more value
pub set-part_added : (xs ys : List ℤ) (i : ℕ) → length xs ≡ length ys → i < length xs
    → set (take i (added xs ys) ++ drop i xs) i (get_or xs i (pos 0) +ℤ get_or ys i (pos 0)) ≡ take (suc i)
    (added xs ys) ++ drop (suc i) xs
set-part_added [] ys i e h = absurd (omega arith)
set-part_added (x ∷ xs) [] i e h = absurd (omega arith)
set-part_added (x ∷ xs) (y ∷ ys) zero e h = refl
set-part_added (x ∷ xs) (y ∷ ys) (suc i) e h =
    ap (λ (l : List ℤ). (x +ℤ y) ∷ l) (set-part_added xs ys i (omega arith) (omega arith))

-- all values
pub part_added_all : (xs ys : List ℤ) (i : ℕ) → length xs ≡ length ys → length ys ≡ i
    → take i (added xs ys) ++ drop i xs ≡ added xs ys
part_added_all [] [] zero e h = refl
part_added_all [] [] (suc i) e h = refl
part_added_all [] (y ∷ ys) i e h = absurd (omega arith)
part_added_all (x ∷ xs) [] i e h = absurd (omega arith)
part_added_all (x ∷ xs) (y ∷ ys) zero e h = absurd (omega arith)
part_added_all (x ∷ xs) (y ∷ ys) (suc i) e h =
    ap (λ (l : List ℤ). (x +ℤ y) ∷ l) (part_added_all xs ys i (omega arith) (omega arith))

-- one more number of a row is within its range
pub raw_more : (row : List ℤ) (j : ℕ) (y : ℤ) → y ≡ get_or row j (pos 0) → IsRaw y
    → ((i : ℕ) → i < j → IsRaw (get_or row i (pos 0))) → (i : ℕ) → i < j + 1 → IsRaw (get_or row i (pos 0))
raw_more row j y is raw done i h = grind (arith, common_steps, by_test, eqb-true, nat_tests)
