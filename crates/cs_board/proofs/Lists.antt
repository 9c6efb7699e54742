-- Plain lists: one element changed, the sum of all elements' weights, how often a number occurs in a list.
use Rattle.std.proofs.lemmas.{Grind.common_steps, Bool.cases_eq, List.get_or-set_same, List.get_or-set_other}
use Rattle.std.proofs.Common.{◌≡◌, ◌≢◌, ℕ, zero, suc, ◌+◌, ◌*◌, ◌<◌, ◌≤◌, ◌⊎◌, inl, inr, ⊎_elim, List, [], ◌∷◌, ◌++◌}
use Rattle.std.proofs.Common.{length, set, refl, sym, ap, arith, eq-eqb, ne_eqb, zero-add}
use mathlib.Core.Option.{some, some-injective, some-ne-none}
use lib.ListN.{get_elem?}
use Rattle.cs_board.specs.{Counts.one, Counts.same, Counts.total, Counts.times, Counts.without, Words.at}

pub same_yes : (a b : ℕ) → a ≡ b → same a b ≡ 1
same_yes a b e = ap one (eq-eqb a b e)

pub same_no : (a b : ℕ) → a ≢ b → same a b ≡ 0
same_no a b n = ap one (ne_eqb a b n)

pub same_cases : (a b : ℕ) → ((a ≡ b) × (same a b ≡ 1)) ⊎ ((a ≢ b) × (same a b ≡ 0))
same_cases a b = ⊎_elim (λ e. inl (e, same_yes a b e)) (λ n. inr (n, same_no a b n)) (cases_eq a b)

-- a number after one was set
pub put_cases : (xs : List ℕ) (i x u : ℕ) → i < length xs
    → ((u ≡ i) × (at (set xs i x) u ≡ x)) ⊎ ((u ≢ i) × (at (set xs i x) u ≡ at xs u))
put_cases xs i x u low = grind (arith, common_steps, cases_eq, get_or-set_other, get_or-set_same)

-- how often a number occurs at an index before and after one was set there
pub put_counts : (xs : List ℕ) (i x a n u : ℕ) → i < length xs → at xs i ≡ a
    → same (at (set xs i x) u) n + same i u * same a n ≡ same (at xs u) n + same i u * same x n
put_counts xs i x a n u low is = grind (arith, common_steps, put_cases, same_no, same_yes)

module _ {A : Type 0} where
  -- an element after one was set
  pub at_set : (l : List A) (i j : ℕ) (a b : A) → get_elem? (set l i a) j ≡ some b
      → ((j ≡ i) × (a ≡ b)) ⊎ ((j ≢ i) × (get_elem? l j ≡ some b))
  at_set [] i j a b e = absurd (some-ne-none b (sym e))
  at_set (x ∷ xs) zero zero a b e = inl (refl, some-injective a b e)
  at_set (x ∷ xs) zero (suc j) a b e = inr ((λ h. omega arith), e)
  at_set (x ∷ xs) (suc i) zero a b e = inr ((λ h. omega arith), e)
  at_set (x ∷ xs) (suc i) (suc j) a b e =
      ⊎_elim (λ t. inl (ap suc t.0, t.1)) (λ t. let n = t.0 in inr ((λ h. n (omega arith)), t.1)) (at_set xs i j a b e)

  pub set_here : (l : List A) (i : ℕ) (a : A) → i < length l → get_elem? (set l i a) i ≡ some a
  set_here [] i a h = absurd (omega arith)
  set_here (x ∷ xs) zero a h = refl
  set_here (x ∷ xs) (suc i) a h = set_here xs i a (omega arith)

  pub set_else : (l : List A) (i j : ℕ) (a : A) → j ≢ i → get_elem? (set l i a) j ≡ get_elem? l j
  set_else [] i j a n = refl
  set_else (x ∷ xs) zero zero a n = absurd (n refl)
  set_else (x ∷ xs) zero (suc j) a n = refl
  set_else (x ∷ xs) (suc i) zero a n = refl
  set_else (x ∷ xs) (suc i) (suc j) a n = set_else xs i j a (λ e. n (ap suc e))

  pub set_again : (l : List A) (i : ℕ) (a : A) → get_elem? l i ≡ some a → set l i a ≡ l
  set_again [] i a e = refl
  set_again (x ∷ xs) zero a e = λ k. sym (some-injective x a e) k ∷ xs
  set_again (x ∷ xs) (suc i) a e = λ k. x ∷ set_again xs i a e k

  pub at_snoc : (l : List A) (a b : A) (j : ℕ) → get_elem? (l ++ a ∷ []) j ≡ some b
      → ((get_elem? l j ≡ some b) × (j < length l)) ⊎ ((a ≡ b) × (j ≡ length l))
  at_snoc [] a b zero e = inr (some-injective a b e, refl)
  at_snoc [] a b (suc j) e = absurd (some-ne-none b (sym e))
  at_snoc (x ∷ xs) a b zero e = inl (e, omega arith)
  at_snoc (x ∷ xs) a b (suc j) e =
      ⊎_elim (λ t. inl (t.0, omega (arith, t.1))) (λ t. inr (t.0, ap suc t.1)) (at_snoc xs a b j e)

  pub total-set : (g : A → ℕ) (l : List A) (j : ℕ) (v w : A) → get_elem? l j ≡ some v
      → total g (set l j w) + g v ≡ total g l + g w
  total-set g [] j v w e = absurd (some-ne-none v (sym e))
  total-set g (x ∷ xs) zero v w e = let h : g x ≡ g v = ap g (some-injective x v e) in omega arith
  total-set g (x ∷ xs) (suc j) v w e = let h : total g (set xs j w) + g v ≡ total g xs + g w =
      total-set g xs j v w e in omega arith

  pub total-append : (g : A → ℕ) (l m : List A) → total g (l ++ m) ≡ total g l + total g m
  total-append g [] m = sym (zero-add (total g m))
  total-append g (x ∷ xs) m = let h : total g (xs ++ m) ≡ total g xs + total g m = total-append g xs m in omega arith

  pub total-snoc : (g : A → ℕ) (l : List A) (a : A) → total g (l ++ a ∷ []) ≡ total g l + g a
  total-snoc g l a = let h : total g (l ++ a ∷ []) ≡ total g l + total g (a ∷ []) =
      total-append g l (a ∷ []) in omega arith

  -- one element weighs no more than all together, and neither do two
  pub total_le : (g : A → ℕ) (l : List A) (j : ℕ) (v : A) → get_elem? l j ≡ some v → g v ≤ total g l
  total_le g [] j v e = absurd (some-ne-none v (sym e))
  total_le g (x ∷ xs) zero v e = let h : g x ≡ g v = ap g (some-injective x v e) in omega arith
  total_le g (x ∷ xs) (suc j) v e = let h : g v ≤ total g xs = total_le g xs j v e in omega arith

  pub total_two : (g : A → ℕ) (l : List A) (i j : ℕ) (v w : A) → i ≢ j → get_elem? l i ≡ some v → get_elem? l j ≡ some w
      → g v + g w ≤ total g l
  total_two g [] i j v w n e f = absurd (some-ne-none v (sym e))
  total_two g (x ∷ xs) zero zero v w n e f = absurd (n refl)
  total_two g (x ∷ xs) zero (suc j) v w n e f = let h : g x ≡ g v =
      ap g (some-injective x v e) in let k : g w ≤ total g xs = total_le g xs j w f in omega arith
  total_two g (x ∷ xs) (suc i) zero v w n e f = let h : g x ≡ g w =
      ap g (some-injective x w f) in let k : g v ≤ total g xs = total_le g xs i v e in omega arith
  total_two g (x ∷ xs) (suc i) (suc j) v w n e f = let h : g v + g w ≤ total g xs =
      total_two g xs i j v w (λ s. n (ap suc s)) e f in omega arith

  -- if f is at most g everywhere and both weigh the same together, they are equal everywhere
  pub total_more : (f g : A → ℕ) (l : List A) → ((x : A) → f x ≤ g x) → total f l ≤ total g l
  total_more f g [] h = omega arith
  total_more f g (x ∷ xs) h = let a : f x ≤ g x = h x in let b : total f xs ≤ total g xs =
      total_more f g xs h in omega arith

  pub total_tight : (f g : A → ℕ) (l : List A) (j : ℕ) (v : A) → ((x : A) → f x ≤ g x) → total f l ≡ total g l
      → get_elem? l j ≡ some v → f v ≡ g v
  total_tight f g [] j v h s e = absurd (some-ne-none v (sym e))
  total_tight f g (x ∷ xs) zero v h s e = grind (arith, common_steps, some-injective, total_more)
  total_tight f g (x ∷ xs) (suc j) v h s e =
      let a : f x ≤ g x = h x in let b : total f xs ≤ total g xs = total_more f g xs h in
      total_tight f g xs j v h (omega arith) e

  -- if f is less than g at one element, the sum of f is less by as much
  pub total_gap : (f g : A → ℕ) (l : List A) (j : ℕ) (v : A) → ((x : A) → f x ≤ g x) → get_elem? l j ≡ some v
      → total f l + g v ≤ total g l + f v
  total_gap f g [] j v h e = absurd (some-ne-none v (sym e))
  total_gap f g (x ∷ xs) zero v h e = grind (arith, common_steps, some-injective, total_more)
  total_gap f g (x ∷ xs) (suc j) v h e =
      let a : f x ≤ g x = h x in let b : total f xs + g v ≤ total g xs + f v = total_gap f g xs j v h e in omega arith

  -- if each element weighs nothing, all together weigh nothing
  pub total_none : (f : A → ℕ) (l : List A) → ((j : ℕ) (v : A) → get_elem? l j ≡ some v → f v ≡ 0) → total f l ≡ 0
  total_none f [] h = refl
  total_none f (x ∷ xs) h = let a : f x ≡ 0 = h 0 x refl in let b : total f xs ≡ 0 =
      total_none f xs (λ j. h (suc j)) in omega arith

  -- if only one element weighs anything, all together weigh as much as it
  pub total_only : (f : A → ℕ) (l : List A) (i : ℕ) (v : A) → get_elem? l i ≡ some v
      → ((j : ℕ) (w : A) → j ≢ i → get_elem? l j ≡ some w → f w ≡ 0) → total f l ≡ f v
  total_only f [] i v e h = absurd (some-ne-none v (sym e))
  total_only f (x ∷ xs) zero v e h =
      let a : f x ≡ f v = ap f (some-injective x v e) in
      let b : total f xs ≡ 0 = total_none f xs (λ j w s. h (suc j) w (λ z. omega arith) s) in omega arith
  total_only f (x ∷ xs) (suc i) v e h =
      let a : f x ≡ 0 = h 0 x (λ z. omega arith) refl in
      let b : total f xs ≡ f v = total_only f xs i v e (λ j w n s. h (suc j) w (λ z. n (omega arith)) s) in omega arith

pub times-snoc : (x : ℕ) (l : List ℕ) (y : ℕ) → times x (l ++ y ∷ []) ≡ times x l + same y x
times-snoc x l y = total-snoc (λ z. same z x) l y

pub times-without : (x t : ℕ) (l : List ℕ) → x ≢ t → times x (without t l) ≡ times x l
times-without x t [] n = refl
times-without x t (y ∷ ys) n = grind (arith, common_steps, cases_eq, eq-eqb, ne_eqb, same_no, times-without x t ys n)

pub times-without_same : (t : ℕ) (l : List ℕ) → times t (without t l) ≡ 0
times-without_same t [] = refl
times-without_same t (y ∷ ys) = grind (arith, common_steps, cases_eq, eq-eqb, ne_eqb, same_no, times-without_same t ys)

pub times-without_le : (x t : ℕ) (l : List ℕ) → times x (without t l) ≤ times x l
times-without_le x t l = grind (arith, common_steps, cases_eq, times-without, times-without_same)

-- a list in which no number occurs is empty
pub empty_from_times : (l : List ℕ) → ((x : ℕ) → times x l ≡ 0) → l ≡ []
empty_from_times [] h = refl
empty_from_times (y ∷ ys) h =
    absurd (let a : times y (y ∷ ys) ≡ 0 = h y in let b : same y y ≡ 1 = same_yes y y refl in omega arith)

-- an index with a number other than 0 is within the list
pub within_of : (xs : List ℕ) (i : ℕ) → at xs i ≢ 0 → i < length xs
within_of [] i n = absurd (n refl)
within_of (x ∷ xs) zero n = omega arith
within_of (x ∷ xs) (suc i) n = let r : i < length xs = within_of xs i n in omega arith
