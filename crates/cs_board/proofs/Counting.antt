-- Counting tests below a number, and the elements of an ascending list one by one.
use Rattle.std.proofs.lemmas.{Grind.common_steps, Bool.cases_eq, Bool.or_right}
use Rattle.std.proofs.Common.{◌≡◌, ◌≢◌, ℕ, zero, suc, ◌+◌, ◌-◌, ◌<◌, ◌≤◌, ⊎_elim, List, [], ◌∷◌, length, take, Bool}
use Rattle.std.proofs.Common.{true, false, ◌==◌, ◌||◌, refl, sym, ap, ◌∙◌, arith, eq-eqb, ne_eqb}
use Rattle.std.specs.List.Sorted.{IsStrictlyIncreasing}
use Rattle.cs_board.specs.{Counts.one, Counts.listed, Counts.count_below, Words.at}

pub count_same : (P Q : ℕ → Bool) (n : ℕ) → ((u : ℕ) → u < n → P u ≡ Q u) → count_below P n ≡ count_below Q n
count_same P Q zero h = refl
count_same P Q (suc n) h =
    let a : count_below P n ≡ count_below Q n = count_same P Q n (λ u l. h u (omega arith)) in
    let b : one (P n) ≡ one (Q n) = ap one (h n (omega arith)) in omega arith

pub count_more : (P Q : ℕ → Bool) (t n : ℕ) → t < n → P t ≡ false → ((u : ℕ) → u ≢ t → Q u ≡ P u)
    → count_below Q n ≡ count_below P n + one (Q t)
count_more P Q t zero l f h = absurd (omega arith)
count_more P Q t (suc n) l f h = ⊎_elim
    (λ (e : n ≡ t).
    let a : count_below Q n ≡ count_below P n = count_same Q P n (λ u m. h u (λ z. omega arith)) in
    let b : one (P n) ≡ 0 = ap (λ u. one (P u)) e ∙ ap one f in
    let c : one (Q n) ≡ one (Q t) = ap (λ u. one (Q u)) e in omega arith)
    (λ (d : n ≢ t).
    let a : count_below Q n ≡ count_below P n + one (Q t) = count_more P Q t n (omega arith) f h in
    let b : one (Q n) ≡ one (P n) = ap one (h n d) in omega arith) (cases_eq n t)

-- only numbers below t pass
pub count_cut : (P Q : ℕ → Bool) (t n : ℕ) → t ≤ n → ((u : ℕ) → u < t → P u ≡ Q u)
    → ((u : ℕ) → t ≤ u → u < n → P u ≡ false) → count_below P n ≡ count_below Q t
count_cut P Q t zero l h f = let e : t ≡ 0 = omega arith in ap (count_below Q) (sym e)
count_cut P Q t (suc n) l h f = ⊎_elim
    (λ (e : t ≡ suc n). count_same P Q (suc n) (λ u m. h u (omega arith)) ∙ ap (count_below Q) (sym e))
    (λ (d : t ≢ suc n).
    let a : count_below P n ≡ count_below Q t = count_cut P Q t n (omega arith) h (λ u m o. f u m (omega arith)) in
    let b : one (P n) ≡ 0 = ap one (f n (omega arith) (omega arith)) in omega arith) (cases_eq t (suc n))

pub count_le : (P : ℕ → Bool) (n : ℕ) → count_below P n ≤ n
count_le P zero = omega arith
count_le P (suc n) = grind (arith, common_steps, count_le P n)

-- an element of an ascending list is less than each later one
pub rises : (xs : List ℕ) → IsStrictlyIncreasing xs → (i d : ℕ) → i + suc d < length xs → at xs i < at xs (i + suc d)
rises xs h i zero l = let a : at xs i < at xs (i + 1) = h i (omega arith) in a
rises xs h i (suc d) l = grind (arith, common_steps, rises xs h i d (omega arith))

-- the first i + 1 elements contain one number more than the first i
pub listed_more : (xs : List ℕ) (i r : ℕ) → i < length xs → at xs i ≢ r
    → listed (take (i + 1) xs) r ≡ listed (take i xs) r
listed_more xs i r l n = ap (λ j. listed (take j xs) r) (plus i) ∙ go xs i l n
  where
    plus : (i : ℕ) → i + 1 ≡ suc i
    plus i = omega arith

    go : (xs : List ℕ) (i : ℕ) → i < length xs → at xs i ≢ r → listed (take (suc i) xs) r ≡ listed (take i xs) r
    go [] i l n = absurd (omega arith)
    go (x ∷ xs) zero l n = ap (λ b. b || false) (ne_eqb x r n)
    go (x ∷ xs) (suc i) l n = ap (λ b. x == r || b) (go xs i (omega arith) n)

pub listed_here : (xs : List ℕ) (i : ℕ) → i < length xs → listed (take (i + 1) xs) (at xs i) ≡ true
listed_here xs i l = ap (λ j. listed (take j xs) (at xs i)) (plus i) ∙ go xs i l
  where
    plus : (i : ℕ) → i + 1 ≡ suc i
    plus i = omega arith

    go : (xs : List ℕ) (i : ℕ) → i < length xs → listed (take (suc i) xs) (at xs i) ≡ true
    go [] i l = absurd (omega arith)
    go (x ∷ xs) zero l = ap (λ b. b || listed (take zero xs) x) (eq-eqb x x refl)
    go (x ∷ xs) (suc i) l = ap (λ b. x == at xs i || b) (go xs i (omega arith)) ∙ or_right (x == at xs i) true refl

pub listed_fresh : (xs : List ℕ) → IsStrictlyIncreasing xs → (i : ℕ) → i < length xs
    → listed (take i xs) (at xs i) ≡ false
listed_fresh xs h i l = go i (at xs i) (omega arith) (λ j m. differ j m)
  where
    differ : (j : ℕ) → j < i → at xs j ≢ at xs i
    differ j m e =
        let a : at xs j < at xs (j + suc (i - suc j)) = rises xs h j (i - suc j) (omega arith) in
        let b : at xs (j + suc (i - suc j)) ≡ at xs i = ap (at xs) (omega arith) in omega arith

    go : (n r : ℕ) → n ≤ length xs → ((j : ℕ) → j < n → at xs j ≢ r) → listed (take n xs) r ≡ false
    go zero r low n = refl
    go (suc n) r low d =
        let e : suc n ≡ n + 1 = omega arith in
        ap (λ j. listed (take j xs) r) e ∙ listed_more xs n r (omega arith) (d n (omega arith))
        ∙ go n r (omega arith) (λ j m. d j (omega arith))

-- an ascending list of numbers below n has at most n elements
pub increasing_few : (xs : List ℕ) (n : ℕ) → IsStrictlyIncreasing xs → ((i : ℕ) → i < length xs → at xs i < n)
    → length xs ≤ n
increasing_few xs n h below = go (length xs) refl
  where
    low : (i : ℕ) → i < length xs → i ≤ at xs i
    low zero l = omega arith
    low (suc i) l =
        let plus : (i : ℕ) → i + 1 ≡ suc i = λ i. omega arith in
        let a : i ≤ at xs i = low i (omega arith) in
        let b : at xs i < at xs (i + 1) = h i (omega arith) in
        let c : at xs (i + 1) ≡ at xs (suc i) = ap (at xs) (plus i) in omega arith

    go : (m : ℕ) → length xs ≡ m → length xs ≤ n
    go zero e = omega arith
    go (suc m) e = let a : m ≤ at xs m = low m (omega arith) in let b : at xs m < n =
        below m (omega arith) in omega arith
