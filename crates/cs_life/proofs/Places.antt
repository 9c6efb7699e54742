-- A note joins those that play.
use Rattle.std.proofs.Common.{◌≡◌, ◌∙◌, ℕ, suc, ◌≤◌, ◌+◌, Bool, true, false, List, ◌∷◌, ◌++◌, length, [], take, drop}
use Rattle.std.proofs.Common.{zero, sym, ap, refl, arith, append-nil, length-drop}
use Rattle.std.specs.{Prelude.filter, List.All, List.AllWithin, List.AllZip, List.insert}
use Rattle.std.proofs.lemmas.List.{get_or-drop, get_or-take, length-take-le, take-append-drop}
use Rattle.std.proofs.lemmas.List.Elements.{filter-append, All-cons, All-head, All-nil, All-tail}

module _ {A : Type 0} where
  -- no element passes a test that each fails, and all pass one that each passes
  nothing_passes : (p : A → Bool) (xs : List A) → All (λ x. p x ≡ false) xs → filter p xs ≡ []
  nothing_passes p [] fails = refl
  nothing_passes p (x ∷ xs) fails =
      rw (All-head (λ x. p x ≡ false) x xs fails) (nothing_passes p xs (All-tail (λ x. p x ≡ false) x xs fails))

  all_passes : (p : A → Bool) (xs : List A) → All (λ x. p x ≡ true) xs → filter p xs ≡ xs
  all_passes p [] passes = refl
  all_passes p (x ∷ xs) passes =
      rw (All-head (λ x. p x ≡ true) x xs passes)
      (ap (λ ys. x ∷ ys) (all_passes p xs (All-tail (λ x. p x ≡ true) x xs passes)))

  all_before : (P : A → Type 0) (xs : List A) (i : ℕ) → i ≤ length xs → AllWithin P xs 0 i → All P (take i xs)
  all_before P xs i le all k d lt =
      rw (get_or-take i xs k d (omega (arith, length-take-le i xs le)))
      (all k d (omega arith) (omega (arith, length-take-le i xs le)))

  all_behind : (P : A → Type 0) (xs : List A) (i : ℕ) → AllWithin P xs i (length xs) → All P (drop i xs)
  all_behind P xs i all k d lt =
      rw (get_or-drop i xs k d) (all (i + k) d (omega arith) (omega (arith, length-drop i xs)))

  -- a test that all elements before an index pass, and none from it on
  pub front : (p : A → Bool) (xs : List A) (i : ℕ) → i ≤ length xs → AllWithin (λ x. p x ≡ true) xs 0 i
      → AllWithin (λ x. p x ≡ false) xs i (length xs) → filter p xs ≡ take i xs
  front p xs i le passes fails =
      let parts : filter p xs ≡ filter p (take i xs) ++ filter p (drop i xs) =
      ap (filter p) (sym (take-append-drop i xs)) ∙ filter-append p (take i xs) (drop i xs) in
      let first = all_passes p (take i xs) (all_before (λ x. p x ≡ true) xs i le passes) in
      let last = nothing_passes p (drop i xs) (all_behind (λ x. p x ≡ false) xs i fails) in
      grind (arith, append-nil)

  pub back : (p : A → Bool) (xs : List A) (i : ℕ) → i ≤ length xs → AllWithin (λ x. p x ≡ false) xs 0 i
      → AllWithin (λ x. p x ≡ true) xs i (length xs) → filter p xs ≡ drop i xs
  back p xs i le fails passes =
      let parts : filter p xs ≡ filter p (take i xs) ++ filter p (drop i xs) =
      ap (filter p) (sym (take-append-drop i xs)) ∙ filter-append p (take i xs) (drop i xs) in
      let first = nothing_passes p (take i xs) (all_before (λ x. p x ≡ false) xs i le fails) in
      let last = all_passes p (drop i xs) (all_behind (λ x. p x ≡ true) xs i passes) in
      grind (arith, append-nil)

module _ {A B : Type 0} (R : A → B → Type 0) where
  -- what follows for the elements of the left list
  pub all_on_left : (P : A → Type 0) → ((x : A) (y : B) → R x y → P x) → (xs : List A) (ys : List B) → AllZip R xs ys
      → All P xs
  all_on_left P f [] [] all = All-nil P
  all_on_left P f (x ∷ xs) (y ∷ ys) all = All-cons P x xs (f x y all.0) (all_on_left P f xs ys all.1)
  all_on_left P f _ _ all = absurd all

  pub zip_insert : (xs : List A) (ys : List B) (i : ℕ) (x : A) (y : B) → AllZip R xs ys → R x y
      → AllZip R (insert xs i x) (insert ys i y)
  zip_insert xs ys zero x y all this = (this, all)
  zip_insert [] [] (suc i) x y all this = (this, all)
  zip_insert [] (b ∷ ys) (suc i) x y all this = absurd all
  zip_insert (a ∷ xs) [] (suc i) x y all this = absurd all
  zip_insert (a ∷ xs) (b ∷ ys) (suc i) x y all this = (all.0, zip_insert xs ys i x y all.1 this)
