-- The steps of a block: their inputs are read one by one, or the frequency is constant.
use Rattle.std.proofs.Common.{◌≡◌, ℕ, ℤ, ◌+◌, ◌%◌, ◌<◌, ◌≤◌, List, [], ◌∷◌, ◌++◌, length, get_or, set, refl, ap, sym}
use Rattle.std.proofs.Common.{subst, ◌∙◌, arith}
use Rattle.cs_signal.proofs.{Operands.one, Walks.HasRun_none, Walks.HasRun_step, Walks.HasRun_end}
use Rattle.cs_signal.specs.{Operands.inputs_at, Operands.operand_at, Steps.run, Walk.HasRun}
use Rattle.cs_signal.specs.declared.operand.Operand.{Operand}
use Rattle.cs_ugen.specs.Phases.{Turning, at_phase, increment, turn, turned, within_turn}
use Rattle.cs_ugen.specs.declared.unit.UnitState.{UnitState}

pub step_at : {S : Type 0} (step : S → List ℤ → S × ℤ) (s : S) (x x' : ℤ) (points points' : List ℤ) (result : S × ℤ) →
    result ≡ step s (x ∷ points) → x ≡ x' → points ≡ points' → result ≡ step s (x' ∷ points')
step_at step s x x' points points' result e p q = cc

-- a block with a constant frequency, before its first step
pub held_none : (step : Turning → List ℤ → Turning × ℤ) (at : ℕ → List ℤ) (t : Turning) (phase : ℕ) (out : List ℤ)
    → phase ≡ t.phase → HasRun step at t (length out) 0 (at_phase t phase) out
held_none step at t phase out e =
    subst (λ p. HasRun step at t (length out) 0 (at_phase t p) out) (sym e)
    (HasRun_none step at t (length out) out refl)

-- one more step: the phase advances by the increment of the frequency
pub held_more : (step : Turning → List ℤ → Turning × ℤ) (at : ℕ → List ℤ) (t : Turning) (cps : ℤ)
    (n j parts phase phase' : ℕ) (out : List ℤ) (y y' : ℤ) →
    HasRun step at t n j (at_phase t phase) out → j < n → parts ≡ within_turn (increment t.rate t.pace cps)
    → phase' ≡ (phase + parts) % turn → y ≡ y' → (turned (at_phase t phase) cps, y') ≡ step (at_phase t phase) (at j)
    → HasRun step at t n (j + 1) (at_phase t phase') (set out j y)
held_more step at t cps n j parts phase phase' out y y' h below p q r e =
    let moved : phase' ≡ (phase + within_turn (increment t.rate t.pace cps)) % turn =
    q ∙ ap (λ k. (phase + k) % turn) p in
    HasRun_step step at t n j (at_phase t phase) (at_phase t phase') out y h below
    (ap (λ k. (at_phase t k, y)) moved ∙ ap (λ z. (turned (at_phase t phase) cps, z)) r ∙ e)

-- the state after the last step
pub held_end : (step : Turning → List ℤ → Turning × ℤ) (at : ℕ → List ℤ) (t s : Turning) (n j phase : ℕ) (out : List ℤ)
    → HasRun step at t n j (at_phase t phase) out → n ≤ j → s ≡ at_phase t phase → (s, out) ≡ run step at t 0 n
held_end step at t s n j phase out h e p = ap (λ u. (u, out)) p ∙ HasRun_end step at t n j (at_phase t phase) out h e

-- a block computed from its only operand equals the block computed from the list of operands
pub by_one : {S : Type 0} (step : S → List ℤ → S × ℤ) (xs : List Operand) (x p : Operand) (points : List ℤ) (s : S)
    (n : ℕ) → length xs ≡ 1 → x ≡ get_or xs 0 p
    → run step (λ j. operand_at x j ∷ points) s 0 n ≡ run step (λ j. inputs_at xs j ++ points) s 0 n
by_one step xs x p points s n long is =
    ap (λ ys. run step (λ j. inputs_at ys j ++ points) s 0 n) (sym (one xs x p long is))

two : (xs : List Operand) (x y p q : Operand) → length xs ≡ 2 → x ≡ get_or xs 0 p → y ≡ get_or xs 1 q → xs ≡ x ∷ y ∷ []
two (a ∷ b ∷ []) x y p q n i j = cc
two xs x y p q n i j = absurd (omega arith)

-- a block computed from its two operands equals the block computed from the list of operands
pub by_two : {S : Type 0} (step : S → List ℤ → S × ℤ) (xs : List Operand) (x y p q : Operand) (points : List ℤ) (s : S)
    (n : ℕ) → length xs ≡ 2 → x ≡ get_or xs 0 p → y ≡ get_or xs 1 q
    → run step (λ j. operand_at x j ∷ operand_at y j ∷ points) s 0 n ≡ run step (λ j. inputs_at xs j ++ points) s 0 n
by_two step xs x y p q points s n long is next =
    ap (λ ys. run step (λ j. inputs_at ys j ++ points) s 0 n) (sym (two xs x y p q long is next))

-- the unit of a state after its run
pub wrapped : {S : Type 0} (kind : S → UnitState) (t : S) (k : UnitState) (out filled : List ℤ) (r : S × List ℤ)
    → k ≡ kind t → out ≡ filled → (t, filled) ≡ r → ◌≡◌ {A = UnitState × List ℤ} (k, out) (kind r.0, r.1)
wrapped kind t k out filled r e f g =
    let pair : UnitState → List ℤ → UnitState × List ℤ = λ k o. (k, o) in
    ap (λ k. pair k out) e ∙ ap (pair (kind t)) f ∙ ap (λ r. pair (kind r.0) r.1) g
