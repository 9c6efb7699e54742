-- One more name, and one more number of an instrument.
use Rattle.std.proofs.Common.{◌≡◌, ◌∙◌, ◌++◌, ℕ, false, List, [], ◌∷◌, if◌then◌else◌, ap}
use Rattle.cs_words.specs.NameSets.{has, seen}
use Rattle.cs_grammar.specs.Reading.{has_number}

pub seen_new : (names : List (List ℕ)) (name n : List ℕ) → has names name ≡ false → name ≡ n
    → seen names name ≡ names ++ n ∷ []
seen_new names name n e i = ap (λ b. if b then names else names ++ name ∷ []) e ∙ ap (λ x. names ++ x ∷ []) i

pub number_added : (ks more : List ℕ) (n : ℕ) → has_number ks n ≡ false
    → more ≡ (if has_number ks n then ks else ks ++ n ∷ []) → more ≡ ks ++ n ∷ []
number_added ks more n h m = m ∙ ap (λ b. if b then ks else ks ++ n ∷ []) h
