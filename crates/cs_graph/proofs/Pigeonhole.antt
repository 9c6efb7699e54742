-- n different places can have different numbers below m only if n is at most m.
use Rattle.std.proofs.lemmas.{Grind.common_steps, Bool.eq-eqb, Bool.ne_eqb, Bool.cases_eq}
use Rattle.std.proofs.Common.{◌≡◌, ◌⊎◌, ℕ, zero, suc, ◌<◌, ◌≤◌, cond, eqb, arith}

-- f with its value at `last` instead of m
abbrev avoiding : (ℕ → ℕ) → ℕ → ℕ → ℕ → ℕ
avoiding f m last i = cond (eqb (f i) m) (f last) (f i)

abbrev Avoids : ℕ → ℕ → ℕ → ℕ → Type 0
Avoids x m y r = ((x ≡ m) × (r ≡ y)) ⊎ ((x ≡ m → ⊥) × (r ≡ x))

avoids : (x m y : ℕ) → Avoids x m y (cond (eqb x m) y x)
avoids x m y = grind (arith, common_steps, cases_eq, eq-eqb, ne_eqb)

-- f maps the numbers below n to numbers below m
abbrev pub Into : (ℕ → ℕ) → ℕ → ℕ → Type 0
Into f n m = (i : ℕ) → i < n → f i < m

-- f maps different numbers below n to different numbers
abbrev pub OneToOne : (ℕ → ℕ) → ℕ → Type 0
OneToOne f n = (i j : ℕ) → i < n → j < n → f i ≡ f j → i ≡ j

into_less : (f : ℕ → ℕ) (n m : ℕ) → Into f (suc n) (suc m) → OneToOne f (suc n) → Into (avoiding f m n) n m
into_less f n m into one i p = grind (arith, common_steps, avoids)

one_less : (f : ℕ → ℕ) (n m : ℕ) → OneToOne f (suc n) → OneToOne (avoiding f m n) n
one_less f n m one i j p q e = grind (arith, common_steps, avoids)

pub pigeonhole : (n m : ℕ) (f : ℕ → ℕ) → Into f n m → OneToOne f n → n ≤ m
pigeonhole zero m f into one = omega arith
pigeonhole (suc n) zero f into one = absurd (omega (arith, into n (omega arith)))
pigeonhole (suc n) (suc m) f into one =
    omega (arith, pigeonhole n m (avoiding f m n) (into_less f n m into one) (one_less f n m one))
