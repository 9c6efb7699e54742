-- Lists in order of a number.
use Rattle.std.proofs.Common.{◌≡◌, ℕ, suc, ◌<◌, ◌≤◌, List, ◌∷◌, length, get_or, map, refl, sym, ◌∙◌, ap, subst, arith}
use Rattle.std.proofs.{Common.[], Math.ListN.get_or-map as get_or_map_default}
use Rattle.std.specs.List.Sorted.{IsNonDecreasingBy}
use Rattle.std.proofs.lemmas.List.{get_or-map}

-- lists with the same images have the same length
pub same_length : {A B X : Type 0} (f : A → X) (g : B → X) (xs : List A) (ys : List B) → map f xs ≡ map g ys
    → length xs ≡ length ys
same_length f g [] [] e = refl
same_length f g (x ∷ xs) (y ∷ ys) e =
    let rest : map f xs ≡ map g ys = cc in
    ap suc (same_length f g xs ys rest)
same_length f g _ _ e = absurd cc

-- A list that has the numbers of an ordered list is ordered.
pub order_over : {A B : Type 0} (n : A → ℕ) (k : B → ℕ) (xs : List A) (ys : List B) → map k ys ≡ map n xs
    → IsNonDecreasingBy n xs
    → IsNonDecreasingBy k ys
order_over n k [] ys e sorted i j d low high =
    let long : length ys ≡ 0 = same_length k n ys [] e in
    absurd (omega (arith, long, high))
order_over n k (x ∷ xs) ys e sorted i j d low high =
    let long : length ys ≡ length (x ∷ xs) = same_length k n ys (x ∷ xs) e in
    let at : (q : ℕ) → q < length ys → k (get_or ys q d) ≡ n (get_or (x ∷ xs) q x) =
    λ q inside. sym (get_or_map_default k ys q d)
    ∙ (ap (λ l. get_or l q (k d)) e ∙ get_or-map n (x ∷ xs) q x (k d) (omega (arith, inside, long))) in
    let is : n (get_or (x ∷ xs) i x) ≤ n (get_or (x ∷ xs) j x) = sorted i j x low (omega (arith, high, long)) in
    subst (λ z. z ≤ k (get_or ys j d)) (sym (at i (omega (arith, low, high))))
    (subst (λ z. n (get_or (x ∷ xs) i x) ≤ z) (sym (at j high)) is)
