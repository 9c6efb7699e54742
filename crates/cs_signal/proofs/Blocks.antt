-- The steps of a cycle return the formula over all steps so far.
use Rattle.std.proofs.Common.{◌≡◌, ℕ, zero, suc, ◌+◌, ◌<◌, List, [], ◌∷◌, ◌++◌, ℤ, refl, ap, sym, ◌∙◌, subst, arith}
use Rattle.std.proofs.Common.{append_assoc, add-one}
use Rattle.std.proofs.lemmas.List.{append-nil}
use Rattle.cs_base.specs.declared.resource.Rate.{Rate}
use Rattle.cs_signal.specs.{Operands.argument, Pace.Pace}
use Rattle.cs_signal.specs.Steps.{run, IsUnit, inputs_of, AnswersByFormula}

one_first : (at : ℕ → List ℤ) (j n : ℕ) → inputs_of at j (suc n) ≡ at j ∷ inputs_of at (j + 1) n
one_first at j n = refl

behind : (at : ℕ → List ℤ) (before : List (List ℤ)) (j n : ℕ)
    → (before ++ at j ∷ []) ++ inputs_of at (j + 1) n ≡ before ++ inputs_of at j (suc n)
behind at before j n = append_assoc before (at j ∷ []) (inputs_of at (j + 1) n)
    ∙ ap (λ l. before ++ l) (sym (one_first at j n))

each_of : (formula : Rate → Pace → List ℤ → List (List ℤ) → ℤ) (rate : Rate) (pace : Pace) (init : List ℤ)
    (before : List (List ℤ)) (at : ℕ → List ℤ) (j n : ℕ)
    (z : ℤ) (results : List ℤ) → z ≡ formula rate pace init (before ++ at j ∷ []) →
    ((k : ℕ) → k < n → argument results k ≡ formula rate pace init
    ((before ++ at j ∷ []) ++ inputs_of at (j + 1) (k + 1))) →
    (k : ℕ) → k < suc n → argument (z ∷ results) k ≡ formula rate pace init (before ++ inputs_of at j (k + 1))
each_of formula rate pace init before at j n z results first rest zero below = first
each_of formula rate pace init before at j n z results first rest (suc k) below =
    rest k (omega arith) ∙ ap (λ l. formula rate pace init l)
    (behind at before j (k + 1) ∙ ap (λ m. before ++ inputs_of at j m) (sym (add-one (k + 1)))
    ∙ ap (λ m. before ++ inputs_of at j (m + 1)) (add-one k))

pub by_formula : {S : Type 0} {formula : Rate → Pace → List ℤ → List (List ℤ) → ℤ} {start : Rate → Pace → List ℤ → S}
    {step : S → List ℤ → S × ℤ} {Stands : S → Rate → Pace → List ℤ → List (List ℤ) → Type 0} →
    IsUnit formula start step Stands → AnswersByFormula formula step Stands
by_formula {S} {formula} {start} {step} {Stands} u s rate pace init before at j zero h = record {
  long = refl;
  each = λ k below. absurd (omega arith);
  stands = subst (Stands s rate pace init) (sym (append-nil before)) h;
}
by_formula {S} {formula} {start} {step} {Stands} u s rate pace init before at j (suc n) h =
    let rest = by_formula u (step s (at j)).0 rate pace init (before ++ at j ∷ []) at (j + 1) n
    (u.goes_on s rate pace init before (at j) h) in
    record {
      long = ap suc rest.long;
      each = λ k below. each_of formula rate pace init before at j n ((step s (at j)).1)
          ((run step at (step s (at j)).0 (j + 1) n).1) (u.answers s rate pace init before (at j) h) rest.each k below;
      stands = subst (Stands (run step at (step s (at j)).0 (j + 1) n).0 rate pace init) (behind at before j n)
          rest.stands;
    }
