-- Histories of steps, extended by one more step.
use Rattle.std.proofs.Common.{◌≡◌, ℕ, suc, ◌+◌, List, [], ◌∷◌, ◌++◌, ◌-◌, length, reverse, get_or, ℤ, refl, ap, ◌∙◌}
use Rattle.std.proofs.Common.{arith}
use Rattle.std.proofs.lemmas.List.{reverse-append, map-append, length-append, get_or_at}
use Rattle.cs_signal.specs.History.{signal, ago, now, last_of}
use Rattle.cs_signal.specs.{Operands.argument, Pace.number_after, Pace.number_of_last}

pub reverse_one : {A : Type 0} (before : List A) (x : A) → reverse (before ++ x ∷ []) ≡ x ∷ reverse before
reverse_one before x = reverse-append before (x ∷ [])

pub signal_one : (k : ℕ) (before : List (List ℤ)) (x : List ℤ)
    → signal k (before ++ x ∷ []) ≡ signal k before ++ argument x k ∷ []
signal_one k before x = map-append (λ inputs. argument inputs k) before (x ∷ [])

reversed : (k : ℕ) (before : List (List ℤ)) (x : List ℤ) →
    reverse (signal k (before ++ x ∷ [])) ≡ argument x k ∷ reverse (signal k before)
reversed k before x = ap reverse (signal_one k before x) ∙ reverse_one (signal k before) (argument x k)

pub now_one : (k : ℕ) (before : List (List ℤ)) (x : List ℤ) → now k (before ++ x ∷ []) ≡ argument x k
now_one k before x = ap (λ xs. argument xs 0) (reversed k before x)

pub ago_one : (k m : ℕ) (before : List (List ℤ)) (x : List ℤ) → ago k (suc m) (before ++ x ∷ []) ≡ ago k m before
ago_one k m before x = ap (λ xs. argument xs (suc m)) (reversed k before x)

pub length_one : {A : Type 0} (before : List A) (x : A) → length (before ++ x ∷ []) ≡ suc (length before)
length_one before x = length-append before (x ∷ []) ∙ omega arith

pub last_number_one : {A : Type 0} (before : List A) (x : A)
    → number_of_last (before ++ x ∷ []) ≡ number_after (length before)
last_number_one before x = let e = length_one before x in omega arith

pub number_one : {A : Type 0} (before : List A) (x : A) →
    number_after (number_after (length before) + 1) ≡ number_after (length (before ++ x ∷ []))
number_one before x = let e = length_one before x in omega arith

pub length-more : {A : Type 0} (h : List A) (x : A) → length (h ++ x ∷ []) - 1 ≡ length h
length-more h x = omega (arith, length-append h (x ∷ []))

pub last_of-more : (h : List (List ℤ)) (x : List ℤ) → last_of (h ++ x ∷ []) ≡ x
last_of-more h x = ap (λ n. get_or (h ++ x ∷ []) n []) (length-more h x) ∙ get_or_at h x [] [] (length h) refl
