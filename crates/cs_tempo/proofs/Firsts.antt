-- The first item that passes a test, and a count after one more item.
use Rattle.std.proofs.Common.{◌≡◌, ℕ, ◌+◌, ◌<◌, ◌≤◌, Bool, true, false, cond, Some, None, List, ◌∷◌, [], ◌++◌, length}
use Rattle.std.proofs.Common.{get_or, drop, take, refl, ap, sym, ◌∙◌}
use Rattle.std.specs.List.{count_by}
use Rattle.std.proofs.lemmas.{List.take_more, List.drop_more, List.drop_all, List.Sums.sum_by_more}
use Rattle.cs_score.specs.Limits.{first_at}

module _ {A : Type 0} (passes : List A → A → Bool) (xs : List A) (k : ℕ) (x : A) (some : k < length xs)
    (here : x ≡ get_or xs k x) where
  upto : take k xs ++ x ∷ [] ≡ take (k + 1) xs
  upto = ap (λ y. take k xs ++ y ∷ []) here ∙ sym (take_more xs k x some)

  rest : drop k xs ≡ x ∷ drop (k + 1) xs
  rest = drop_more xs k x some ∙ ap (λ y. y ∷ drop (k + 1) xs) (sym here)

  pub first_here : passes (take (k + 1) xs) x ≡ true → first_at passes (take k xs) (drop k xs) ≡ Some x
  unfolding first_at
  first_here h = let h' : passes (take k xs ++ x ∷ []) x ≡ true = ap (λ ys. passes ys x) upto ∙ h in rw (rest, h') refl

  pub first_on : passes (take (k + 1) xs) x ≡ false
      → first_at passes (take k xs) (drop k xs) ≡ first_at passes (take (k + 1) xs) (drop (k + 1) xs)
  unfolding first_at
  first_on h =
      let h' : passes (take k xs ++ x ∷ []) x ≡ false = ap (λ ys. passes ys x) upto ∙ h in
      rw (rest, h') (ap (λ ys. first_at passes ys (drop (k + 1) xs)) upto)

pub first_none : {A : Type 0} (passes : List A → A → Bool) (xs : List A) (k : ℕ) → length xs ≤ k
    → first_at passes (take k xs) (drop k xs) ≡ None
unfolding first_at
first_none passes xs k all = ap (first_at passes (take k xs)) (drop_all k xs all)

-- a count after one more item
pub count_more : {X : Type 0} (p : X → Bool) (xs : List X) (k : ℕ) (x : X) → k < length xs → x ≡ get_or xs k x →
    count_by p (take (k + 1) xs) ≡ count_by p (take k xs) + cond (p x) 1 0
count_more p xs k x some here =
    sum_by_more (λ y. cond (p y) 1 0) xs k x some ∙ ap (λ y. count_by p (take k xs) + cond (p y) 1 0) (sym here)
