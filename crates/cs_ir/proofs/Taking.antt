-- The registers that letters accept.
use Rattle.std.proofs.Common.{◌≡◌, ℕ, zero, suc, ◌≤◌, List, [], ◌∷◌, length, drop, nat_eq, arith, refl, ◌∙◌, subst}
use Rattle.std.proofs.Common.{Bool}
use Rattle.std.specs.Prelude.{filter}
use Rattle.cs_words.specs.{Catalogue.is_moving, declared.catalogue.Letter.Letter}
use Rattle.std.proofs.lemmas.{Bool.Decides.nat_tests, List.drop_all}
use Rattle.cs_base.specs.declared.resource.Rate.{Rate}
use Rattle.cs_ir.specs.{Validity.take_all, declared.register.Reg.Reg}

same_suc : (m n : ℕ) → nat_eq (suc m) (suc n) ≡ nat_eq m n
same_suc m n = grind (arith, nat_tests)

-- no letters accept no registers, and nothing else
pub take_none : (bound : Rate) (n : ℕ) (xs : List Reg) → n ≤ length xs
    → nat_eq n (length xs) ≡ take_all [] bound (drop n xs)
take_none bound zero [] h = refl
take_none bound zero (x ∷ xs) h = grind (arith, nat_tests)
take_none bound (suc n) [] h = let no : ⊥ = omega arith in absurd no
take_none bound (suc n) (x ∷ xs) h = same_suc n (length xs) ∙ take_none bound n xs (omega (arith))

-- after all letters, all registers must have been accepted
pub all_taken : (ls : List Letter) (i : ℕ) (bound : Rate) (n : ℕ) (xs : List Reg) (b : Bool) → n ≤ length xs
    → length ls ≤ i → take_all (filter is_moving (drop i ls)) bound (drop n xs) ≡ b → nat_eq n (length xs) ≡ b
all_taken ls i bound n xs b h past e =
    take_none bound n xs h ∙ subst (λ t. take_all (filter is_moving t) bound (drop n xs) ≡ b) (drop_all i ls past) e
