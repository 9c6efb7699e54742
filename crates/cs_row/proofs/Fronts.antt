-- A prefix of one list before the rest of another of the same length; and what holds at an index.
use Rattle.std.proofs.lemmas.Grind.{common_steps}
use Rattle.std.proofs.Common.{◌≡◌, ℕ, zero, suc, ◌<◌, List, [], ◌∷◌, ◌++◌, length, take, drop, slice_get, slice_set}
use Rattle.std.proofs.Common.{Some, refl, ap, get_or, arith, subst}
use Rattle.std.proofs.lemmas.Option.{get_or_from_slice_get, slice_get-get_or, slice_get_within}
use Rattle.std.specs.List.{All}

module _ {A : Type 0} where
  -- Two lists of the same length: a prefix of the first before the rest of the second.
  pub middle : (ys js : List A) (n : ℕ) → length ys ≡ length js → n < length js
      → slice_get (take n ys ++ drop n js) n ≡ slice_get js n
  middle ys [] n e l = absurd (omega arith)
  middle [] (j ∷ js) n e l = absurd (omega (arith, e))
  middle (y ∷ ys) (j ∷ js) zero e l = refl
  middle (y ∷ ys) (j ∷ js) (suc n) e l = middle ys js n (omega (arith, e)) (omega (arith, l))

  pub middle_below : (ys js : List A) (n : ℕ) → length ys ≡ length js → n < length js
      → n < length (take n ys ++ drop n js)
  middle_below ys [] n e l = absurd (omega arith)
  middle_below [] (j ∷ js) n e l = absurd (omega (arith, e))
  middle_below (y ∷ ys) (j ∷ js) zero e l = omega arith
  middle_below (y ∷ ys) (j ∷ js) (suc n) e l =
      grind (arith, common_steps, middle_below ys js n (omega (arith, e)) (omega (arith, l)))

  pub next_set : (ys js : List A) (n : ℕ) (x : A) → length ys ≡ length js → n < length js → slice_get ys n ≡ Some x
      → slice_set (take n ys ++ drop n js) n x ≡ take (suc n) ys ++ drop (suc n) js
  next_set ys [] n x e l at = absurd (omega arith)
  next_set [] (j ∷ js) n x e l at = absurd (omega (arith, e))
  next_set (y ∷ ys) (j ∷ js) zero x e l at = let same : x ≡ y = cc in ap (λ z. z ∷ js) same
  next_set (y ∷ ys) (j ∷ js) (suc n) x e l at =
      ap (λ zs. y ∷ zs) (next_set ys js n x (omega (arith, e)) (omega (arith, l)) at)

  pub all_of : (ys js : List A) → length ys ≡ length js → take (length js) ys ++ drop (length js) js ≡ ys
  all_of [] [] e = refl
  all_of [] (j ∷ js) e = absurd (omega (arith, e))
  all_of (y ∷ ys) [] e = absurd (omega (arith, e))
  all_of (y ∷ ys) (j ∷ js) e = ap (λ zs. y ∷ zs) (all_of ys js (omega (arith, e)))

  -- the next element of the rest
  pub next_here : (ys js zs : List A) (n : ℕ) (d : A) → length ys ≡ length js → n < length js
      → zs ≡ take n ys ++ drop n js → slice_get js n ≡ Some (get_or zs n d)
  next_here ys js zs n d e l parts = grind (arith, common_steps, middle, middle_below, slice_get-get_or)

  -- what holds for all elements holds for the one at an index
  pub all_at : (P : A → Type 0) (xs : List A) (k : ℕ) (x : A) → All P xs → slice_get xs k ≡ Some x → P x
  all_at P xs k x all at = subst P (get_or_from_slice_get xs k x x at) (all k x (slice_get_within xs k x at))
