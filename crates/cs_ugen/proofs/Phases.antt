-- Phases are added within a turn.
use Rattle.std.proofs.Common.{◌≡◌, ℕ, ℤ, pos, negsuc, suc, ◌+◌, ◌*◌, ◌%◌, ◌+ℤ◌, ◌*ℤ◌, unsigned_abs, List, [], ◌∷◌, ◌++◌}
use Rattle.std.proofs.Common.{map, refl, ap, sym, ◌∙◌, arith}
use Rattle.std.proofs.Math.Nat.{mod-add-mod, add-mod-mod}
use Rattle.std.proofs.lemmas.Int.{ints, int_rem_euclid_is}
use Rattle.cs_base.specs.{Numbers.total, declared.resource.Rate.Rate}
use Rattle.cs_signal.specs.Pace.{Pace}
use Rattle.cs_ugen.specs.Phases.{turn, within_turn, increment, phase_of, Turning, HasTurned, begun, turned}
use Rattle.cs_ugen.proofs.Inputs.{map-more}

-- complete turns are added until the sum isn't negative
record Lifted (a : ℤ) : Type 0 where
  turns : ℕ
  sum : ℕ
  is : a +ℤ pos (turns * turn) ≡ pos sum

lifted : (a : ℤ) → Lifted a
lifted (pos a) = record { turns = 0; sum = a; is = omega (arith, ints) }
lifted (negsuc a) = record { turns = suc a; sum = suc a * 16777215; is = omega (arith, ints) }

within_turn_is : (a : ℤ) (turns sum : ℕ) → a +ℤ pos (turns * turn) ≡ pos sum → within_turn a ≡ sum % turn
unfolding within_turn
within_turn_is a turns sum e = ap unsigned_abs (int_rem_euclid_is a (pos turn) turn turns sum (omega arith) refl e)

pub within_turn-add : (a b : ℤ) → (within_turn a + within_turn b) % turn ≡ within_turn (a +ℤ b)
within_turn-add a b =
    let p = lifted a in
    let q = lifted b in
    let pi = p.is in
    let qi = q.is in
    let m : ℕ = p.sum in
    let n : ℕ = q.sum in
    let both : (a +ℤ b) +ℤ pos ((p.turns + q.turns) * turn) ≡ pos (m + n) = omega (arith, ints, pi, qi) in
    ap (λ k. (k + within_turn b) % turn) (within_turn_is a p.turns m pi)
    ∙ ap (λ k. (m % turn + k) % turn) (within_turn_is b q.turns n qi)
    ∙ mod-add-mod m turn (n % turn) ∙ add-mod-mod m n turn
    ∙ sym (within_turn_is (a +ℤ b) (p.turns + q.turns) (m + n) both)

total-more : (zs : List ℤ) (z : ℤ) → total (zs ++ z ∷ []) ≡ total zs +ℤ z
total-more [] z = omega (arith, ints)
total-more (y ∷ ys) z = let e = total-more ys z in omega (arith, ints, e)

-- the state before the first step
pub HasTurned-none : (rate : Rate) (pace : Pace) (start : ℤ) → HasTurned (begun rate pace start) rate pace start []
unfolding phase_of
HasTurned-none rate pace start =
    let e : start *ℤ pos 256 ≡ (start *ℤ pos 256) +ℤ pos 0 = omega (arith, ints) in
    record { rate_is = refl; pace_is = refl; phase_is = ap within_turn e }

phase-more : (rate : Rate) (pace : Pace) (start : ℤ) (cs : List ℤ) (c : ℤ) →
    (phase_of rate pace start cs + within_turn (increment rate pace c)) % turn ≡ phase_of rate pace start (cs ++ c ∷ [])
unfolding phase_of
phase-more rate pace start cs c =
    let f : ℤ → ℤ = increment rate pace in
    let so_far : ℤ = total (map f cs) in
    let sums : total (map f (cs ++ c ∷ [])) ≡ so_far +ℤ f c =
    ap total (map-more f cs c) ∙ total-more (map f cs) (f c) in
    let last : ((start *ℤ pos 256) +ℤ so_far) +ℤ f c ≡ (start *ℤ pos 256) +ℤ total (map f (cs ++ c ∷ [])) =
    omega (arith, ints, sums) in
    within_turn-add ((start *ℤ pos 256) +ℤ so_far) (f c) ∙ ap within_turn last

-- the state after one more step
pub HasTurned-more : (t : Turning) (rate : Rate) (pace : Pace) (start : ℤ) (cs : List ℤ) (c : ℤ)
    → HasTurned t rate pace start cs → HasTurned (turned t c) rate pace start (cs ++ c ∷ [])
HasTurned-more t rate pace start cs c h = record {
  rate_is = h.rate_is;
  pace_is = h.pace_is;
  phase_is = ap (λ r. (t.phase + within_turn (increment r t.pace c)) % turn) h.rate_is
      ∙ ap (λ p. (t.phase + within_turn (increment rate p c)) % turn) h.pace_is
      ∙ ap (λ k. (k + within_turn (increment rate pace c)) % turn) h.phase_is ∙ phase-more rate pace start cs c;
}
