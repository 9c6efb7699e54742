-- The inputs of one more step.
use Rattle.std.proofs.Common.{◌≡◌, ℤ, List, [], ◌∷◌, ◌++◌, length, take, map, refl, ap, ◌∙◌}
use Rattle.cs_signal.proofs.Histories.{length-more}
use Rattle.cs_ugen.specs.Inputs.{before_last}

take_front : {A : Type 0} (h rest : List A) → take (length h) (h ++ rest) ≡ h
take_front [] rest = refl
take_front (a ∷ h) rest = ap (λ t. a ∷ t) (take_front h rest)

pub before_last-more : (h : List (List ℤ)) (x : List ℤ) → before_last (h ++ x ∷ []) ≡ h
before_last-more h x = ap (λ n. take n (h ++ x ∷ [])) (length-more h x) ∙ take_front h (x ∷ [])

pub map-more : {A B : Type 0} (f : A → B) (h : List A) (x : A) → map f (h ++ x ∷ []) ≡ map f h ++ f x ∷ []
map-more f [] x = refl
map-more f (y ∷ ys) x = ap (λ t. f y ∷ t) (map-more f ys x)
