-- An element that was read from a list is the element there for any default.
use Rattle.std.proofs.Common.{◌≡◌, ℕ, ◌<◌, List, length, get_or, refl}
use Rattle.std.proofs.lemmas.List.Elements.{at_read}

pub read_at : {X : Type 0} (xs : List X) (i : ℕ) (x d : X) → i < length xs → x ≡ get_or xs i x → get_or xs i d ≡ x
read_at xs i x d within is = at_read xs (λ y. y ≡ x) i x within is refl d
