-- Registers of a list that is read in a window.
use Rattle.std.proofs.Common.{◌≡◌, ◌∙◌, ◌<◌, ℕ, zero, suc, Bool, true, List, [], ◌∷◌, length, map, get_or, arith, ap}
use Rattle.std.specs.List.{list_all}
use Rattle.std.proofs.lemmas.Bool.{and_parts}

pub read_each : {A B : Type 0} (p : B → Bool) (f : A → B) (xs : List A) (n : ℕ) (x : A)
    → list_all p (map f xs) ≡ true → n < length xs → x ≡ get_or xs n x → p (f x) ≡ true
read_each p f [] n x all low is = absurd (omega (arith, low))
read_each p f (y ∷ xs) zero x all low is =
    ap (λ z. p (f z)) is ∙ (and_parts (p (f y)) (list_all p (map f xs)) all).0
read_each p f (y ∷ xs) (suc n) x all low is =
    read_each p f xs n x (and_parts (p (f y)) (list_all p (map f xs)) all).1 (omega (arith, low)) is
