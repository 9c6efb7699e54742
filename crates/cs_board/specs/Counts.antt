-- Counting in plain lists. f is the weight of an element, P a test.
use Rattle.std.specs.Prelude.{ℕ, zero, suc, ◌+◌, List, [], ◌∷◌, Bool, false, cond, ◌==◌, ◌||◌}

-- 1 for true, 0 for false
abbrev pub one : Bool → ℕ
one b = cond b 1 0

-- 1 if the two numbers are equal, otherwise 0
abbrev pub same : ℕ → ℕ → ℕ
same a b = one (a == b)

-- the sum of f over the list
abbrev pub total : {A : Type 0} → (A → ℕ) → List A → ℕ
total f [] = 0
total f (x ∷ xs) = f x + total f xs

-- how often x occurs in the list
abbrev pub times : ℕ → List ℕ → ℕ
times x xs = total (λ y. same y x) xs

-- the list without x
abbrev pub without : ℕ → List ℕ → List ℕ
without x [] = []
without x (y ∷ ys) = cond (y == x) (without x ys) (y ∷ without x ys)

-- whether x occurs in the list
abbrev pub listed : List ℕ → ℕ → Bool
listed [] x = false
listed (y ∷ ys) x = y == x || listed ys x

-- how many numbers below n pass the test
abbrev pub count_below : (ℕ → Bool) → ℕ → ℕ
count_below P zero = 0
count_below P (suc n) = count_below P n + one (P n)
