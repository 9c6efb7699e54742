-- Sorting by a total order in which only identical items are equal: a sorted permutation is the list sorted
-- by insertion.
use Rattle.std.proofs.Common.{◌≡◌, ℕ, suc, ◌<◌, ◌≤◌, Bool, true, false, cond, List, [], ◌∷◌, length, get_or, arith}
use Rattle.std.proofs.Common.{refl, ap, sym, ◌∙◌, ⊎_elim, ◌⊎◌, inl, inr}
use Rattle.std.specs.{Cmp.IsTotalOrder, Cmp.IsStrictWeakOrder, declared.cmp.Ordering.Ordering}
use Rattle.std.specs.{List.AllByRecursion as Each, List.sum_by, List.Sorted.IsSorted, List.Sorted.IsPermutation}
use Rattle.std.specs.Ordering.{is_lt, is_eq, ordering_reverse}
use Rattle.std.specs.declared.cmp.Ordering.TheVariants.{Less, Equal, Greater}
use Rattle.std.proofs.lemmas.{List.Sums.sum_by-cons, Cmp.tied_itself, Bool.cases_Bool, List.Elements.recursion_from_All}
use Rattle.std.proofs.lemmas.List.Sorted.{sum_by-IsPermutation, sorted_far, ranks_by}
use Rattle.cs_tempo.specs.inner.Turns.{inserted, sorted}
use Rattle.cs_tempo.proofs.Elements.{each_more}

three_ways : (o : Ordering) → (o ≡ Less) ⊎ ((o ≡ Equal) ⊎ (o ≡ Greater))
three_ways Less = inl refl
three_ways Equal = inr (inl refl)
three_ways Greater = inr (inr refl)

clash : (b : Bool) → b ≡ true → b ≡ false → ⊥
clash true t f = absurd (cc)
clash false t f = absurd (cc)

module _ {X : Type 0} (R : X → X → Ordering) (o : IsTotalOrder R) where
  pub order : IsStrictWeakOrder (λ x y. is_lt (R x y))
  order = ranks_by o (λ (x : X). x)

  -- no item comes before an earlier one
  abbrev pub Rising : List X → Type 0
  Rising [] = Unit {0}
  Rising (x ∷ xs) = Each (λ y. is_lt (R y x) ≡ false) xs × Rising xs

  pub each_inserted : (P : X → Type 0) (x : X) (ys : List X) → P x → Each P ys → Each P (inserted R x ys)
  each_inserted P x [] p e = (p, tt)
  each_inserted P x (y ∷ ys) p e =
      ⊎_elim
      (λ t. rw t (e.0, each_inserted P x ys p e.1))
      (λ f. rw f (p, (e.0, e.1))) (cases_Bool (is_lt (R y x)))

  pub each_sorted : (P : X → Type 0) (xs : List X) → Each P xs → Each P (sorted R xs)
  each_sorted P [] e = tt
  each_sorted P (x ∷ xs) e = each_inserted P x (sorted R xs) e.0 (each_sorted P xs e.1)

  rising_inserted : (x : X) (ys : List X) → Rising ys → Rising (inserted R x ys)
  rising_inserted x [] r = (tt, tt)
  rising_inserted x (y ∷ ys) r =
      ⊎_elim
      (λ t. rw t (each_inserted (λ u. is_lt (R u y) ≡ false) x ys (order.one_way y x t) r.0, rising_inserted x ys r.1))
      (λ f. rw f (((f, each_more _ _ ys (λ u h. order.chain u y x h f) r.0)), r)) (cases_Bool (is_lt (R y x)))

  pub rising_sorted : (xs : List X) → Rising (sorted R xs)
  rising_sorted [] = tt
  rising_sorted (x ∷ xs) = rising_inserted x (sorted R xs) (rising_sorted xs)

module _ {X : Type 0} (R : X → X → Ordering) (o : IsTotalOrder R) (same : (x y : X) → R x y ≡ Equal → x ≡ y) where
  abbrev count : X → List X → ℕ
  count z xs = sum_by (λ y. cond (is_eq (R z y)) 1 0) xs

  count_inserted : (z x : X) (ys : List X) → count z (inserted R x ys) ≡ count z (x ∷ ys)
  count_inserted z x [] = refl
  count_inserted z x (y ∷ ys) =
      let f : X → ℕ = λ u. cond (is_eq (R z u)) 1 0 in
      ⊎_elim
      (λ t. rw t (
      omega (
        arith,
        sum_by-cons f y (inserted R x ys),
        count_inserted z x ys,
        sum_by-cons f x ys,
        sum_by-cons f x (y ∷ ys),
        sum_by-cons f y ys,
      )))
      (λ e. rw e refl) (cases_Bool (is_lt (R y x)))

  count_sorted : (z : X) (xs : List X) → count z (sorted R xs) ≡ count z xs
  count_sorted z [] = refl
  count_sorted z (x ∷ xs) =
      let f : X → ℕ = λ u. cond (is_eq (R z u)) 1 0 in
      omega (
        arith,
        count_inserted z x (sorted R xs),
        count_sorted z xs,
        sum_by-cons f x (sorted R xs),
        sum_by-cons f x xs,
      )

  none_counted : (z : X) (xs : List X) → Each (λ y. is_eq (R z y) ≡ false) xs → count z xs ≡ 0
  none_counted z [] e = refl
  none_counted z (x ∷ xs) e =
      let f : X → ℕ = λ u. cond (is_eq (R z u)) 1 0 in
      let zero_here : f x ≡ 0 =
      ap (λ b. cond b 1 0) e.0 in omega (arith, sum_by-cons f x xs, none_counted z xs e.1, zero_here)

  -- an item below the first item of a sorted list isn't in that list
  apart : (x y z : X) → R x y ≡ Less → is_lt (R z y) ≡ false → is_eq (R x z) ≡ false
  apart x y z low h =
      ⊎_elim (λ l. ap is_eq l)
      (λ g. ⊎_elim
      (λ e. absurd (clash (is_lt (R z y)) (ap is_lt (sym (o.congr x z y e) ∙ low)) h))
      (λ g'. ap is_eq g') g) (three_ways (R x z))

  below_all : (x y : X) (ys : List X) → R x y ≡ Less → Rising R o (y ∷ ys) → Each (λ z. is_eq (R x z) ≡ false) (y ∷ ys)
  below_all x y ys low r = (ap is_eq low, each_more _ _ ys (λ z h. apart x y z low h) r.0)

  counted_itself : (x : X) (xs : List X) → 1 ≤ count x (x ∷ xs)
  counted_itself x xs =
      let f : X → ℕ = λ u. cond (is_eq (R x u)) 1 0 in
      let here : f x ≡ 1 = ap (λ c. cond (is_eq c) 1 0) (tied_itself o x) in omega (arith, sum_by-cons f x xs, here)

  not_below : (x y : X) (xs ys : List X) → R x y ≡ Less → Rising R o (y ∷ ys)
      → ((z : X) → count z (x ∷ xs) ≡ count z (y ∷ ys)) → ⊥
  not_below x y xs ys low r e =
      omega (arith, counted_itself x xs, none_counted x (y ∷ ys) (below_all x y ys low r), e x)

  heads : (x y : X) (xs ys : List X) → x ≡ y → xs ≡ ys → x ∷ xs ≡ y ∷ ys
  heads x y xs ys p q = ap (λ h. h ∷ xs) p ∙ ap (λ t. y ∷ t) q

  tails : (x y : X) (xs ys : List X) (z : X) → x ≡ y → count z (x ∷ xs) ≡ count z (y ∷ ys) → count z xs ≡ count z ys
  tails x y xs ys z p e =
      let f : X → ℕ = λ u. cond (is_eq (R z u)) 1 0 in
      omega (arith, ap f p, sum_by-cons f x xs, sum_by-cons f y ys, e)

  -- two rising lists of the same items are the same list
  pub one_order : (xs ys : List X) → Rising R o xs → Rising R o ys → ((z : X) → count z xs ≡ count z ys) → xs ≡ ys
  one_order [] [] r s e = refl
  one_order [] (y ∷ ys) r s e = absurd (omega (arith, counted_itself y ys, e y))
  one_order (x ∷ xs) [] r s e = absurd (omega (arith, counted_itself x xs, e x))
  one_order (x ∷ xs) (y ∷ ys) r s e =
      ⊎_elim (λ l. absurd (not_below x y xs ys l s e))
      (λ g. ⊎_elim
      (λ q. heads x y xs ys (same x y q) (one_order xs ys r.1 s.1 (λ z. tails x y xs ys z (same x y q) (e z))))
      (λ g'. absurd (not_below y x ys xs (o.antisymm y x ∙ ap ordering_reverse g') r (λ z. sym (e z)))) g)
      (three_ways (R x y))

  rising_from_far : (xs : List X)
      → ((i j : ℕ) (d : X) → i ≤ j → j < length xs → is_lt (R (get_or xs j d) (get_or xs i d)) ≡ false) → Rising R o xs
  rising_from_far [] h = tt
  rising_from_far (x ∷ xs) h = (
    recursion_from_All (λ y. is_lt (R y x) ≡ false) xs (λ j d l. h 0 (suc j) d (omega arith) (omega arith)),
    rising_from_far xs (λ i j d p l. h (suc i) (suc j) d (omega arith) (omega arith)),
  )

  -- the result of std's sort
  pub is_sorted : (xs ys : List X) → IsPermutation xs ys → IsSorted R ys → ys ≡ sorted R xs
  is_sorted xs ys p s =
      one_order ys (sorted R xs) (rising_from_far ys (sorted_far (λ x y. is_lt (R x y)) (order R o) ys s))
      (rising_sorted R o xs)
      (λ z. sum_by-IsPermutation (λ y. cond (is_eq (R z y)) 1 0) xs ys p ∙ sym (count_sorted z xs))
