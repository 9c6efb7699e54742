-- The targets of a way: consecutive frames, and parts of the expanded text one after another.
use Rattle.std.proofs.Common.{◌≡◌, ◌∙◌, ℕ, zero, suc, ◌+◌, List, ◌∷◌, ◌++◌, length, Some, arith, sym, ap, subst, []}
use Rattle.std.proofs.Common.{add-zero}
use Rattle.std.specs.List.{slice_get}
use Rattle.cs_meaning.specs.Notes.{Path, next}
use Rattle.cs_udo_meaning.specs.Stands.{Way}
use Rattle.cs_udo_meaning.proofs.{Paths.inward, Ways.Leads}

-- ---- consecutive frames

-- the frames from number n on belong to these calls
abbrev pub Holds : Way → ℕ → List Path → Type 0
Holds way n [] = Unit {0}
Holds way n (p ∷ ps) = (way.frame n ≡ Some p) × Holds way (suc n) ps

pub first_hold : (way : Way) (n : ℕ) (xs ys : List Path) → Holds way n (xs ++ ys) → Holds way n xs
first_hold way n [] ys h = tt
first_hold way n (x ∷ xs) ys h = (h.0, first_hold way (suc n) xs ys h.1)

pub rest_hold : (way : Way) (n k : ℕ) (xs ys : List Path) → k ≡ n + length xs → Holds way n (xs ++ ys) → Holds way k ys
rest_hold way n k [] ys e h = let same : n ≡ k = omega (arith, e) in subst (λ i. Holds way i ys) same h
rest_hold way n k (x ∷ xs) ys e h = rest_hold way (suc n) k xs ys (omega (arith, e)) h.1

pub holds_from : (way : Way) (n : ℕ) (xs : List Path) → ((i j : ℕ) → j ≡ i + n → way.frame j ≡ slice_get xs i)
    → Holds way n xs
holds_from way n [] h = tt
holds_from way n (x ∷ xs) h =
    (h 0 n (omega arith), holds_from way (suc n) xs (λ i j e. h (suc i) j (omega (arith, e))))

-- ---- parts of the expanded text

-- the way from a path, and from the parts inside it
abbrev pub Lays : Way → Path → Leads → Type 0
Lays way p n = (y : Path) → way.part (inward y p) ≡ n y

abbrev pub behind : ℕ → Path → Path
behind zero p = p
behind (suc k) p = behind k (next p)

abbrev pub LaysOn : Way → Path → Leads → Type 0
LaysOn way p n = (k : ℕ) (y : Path) → way.part (inward y (behind k p)) ≡ n (k ∷ y)

behind_is : (k n : ℕ) (p : Path) → behind k (n ∷ p) ≡ (k + n) ∷ p
behind_is zero n p = let none : n ≡ 0 + n = omega arith in ap (λ j. j ∷ p) none
behind_is (suc k) n p =
    let one : k + suc n ≡ suc k + n = omega arith in behind_is k (suc n) p ∙ ap (λ j. j ∷ p) one

-- the parts inside a path
pub lays_on : (way : Way) (p : Path) (n : Leads) → Lays way p n → LaysOn way (0 ∷ p) n
lays_on way p n h k y =
    subst (λ r. way.part (inward y r) ≡ n (k ∷ y)) (sym (behind_is k 0 p ∙ ap (λ j. j ∷ p) (add-zero k))) (h (k ∷ y))
