-- Each opcode with its own law.
use Rattle.std.proofs.Common.{◌≡◌, ℕ, zero, suc, ◌+◌, ℤ, List, [], ◌∷◌, ◌++◌, refl, ap, sym, subst, ◌∙◌}
use Rattle.cs_base.specs.declared.resource.Rate.{Rate}
use Rattle.cs_words.specs.declared.catalogue.Opcode.{Opcode}
use Rattle.cs_signal.specs.{Pace.Pace, Steps.IsUnit, Steps.run}
use Rattle.cs_ugen.proofs.Oscillators.{oscil_is_unit, oscili_is_unit, phasor_is_unit, table_is_unit, tablei_is_unit}
use Rattle.cs_ugen.specs.Units.{IsUnitOpcode, OfOpcode, Stands, StateStands, gen, of_opcode, of_unit, opcode_of}
use Rattle.cs_ugen.specs.Units.{unit_start, unit_step, with_state}
use Rattle.cs_ugen.specs.{inner.Runs.run_of, inner.Runs.state_run, declared.unit.UnitState.UnitState}
use Rattle.cs_words.specs.declared.catalogue.Opcode.TheVariants as op
use Rattle.cs_signal.proofs.Formulas as formulas
use Rattle.cs_ugen.specs.declared.unit.UnitState.TheVariants as unit

abbrev HasLaw : OfOpcode → Type 0
HasLaw e = IsUnit e.formula e.start e.step e.stands

-- the law of each opcode; an opcode without state, or one that isn't a unit, satisfies it by definition
law_of : (o : Opcode) → HasLaw (of_opcode o)
law_of op.Oscil = oscil_is_unit
law_of op.Oscili = oscili_is_unit
law_of op.Phasor = phasor_is_unit
law_of op.Line = formulas.line_law
law_of op.Linseg = formulas.linseg_law
law_of op.Linen = formulas.linen_law
law_of op.Delay = formulas.delay_law
law_of op.Biquad = formulas.biquad_law
law_of op.Table = table_is_unit
law_of op.Tablei = tablei_is_unit
law_of op.Integ = formulas.integ_law
law_of op.Diff = formulas.diff_law
law_of op.Samphold = formulas.samphold_law
law_of op.Interp = formulas.interp_law
law_of o = formulas.plain_law (λ x. ((of_opcode o).step tt x).1)

-- a unit that starts is the unit of the opcode's initial state
begins : (o : Opcode) (rate : Rate) (pace : Pace) (settled : List ℤ)
    → (of_opcode o).begin rate pace settled ≡ (of_opcode o).kind ((of_opcode o).start rate pace settled)
begins op.Oscil rate pace settled = refl
begins o rate pace settled = refl

-- the unit of a state has this state, for each opcode of a unit
state_found : (o : Opcode) → IsUnitOpcode o → (s : (of_opcode o).State)
    → of_unit ((of_opcode o).kind s) ≡ with_state o s
state_found op.Oscil is s = refl
state_found o is s = cc

-- each unit has the opcode of a unit, and is the unit of its state
is_unit : (u : UnitState) → IsUnitOpcode (opcode_of u)
is_unit (unit.Oscil s) = refl
is_unit u = refl

whole : (u : UnitState) → u ≡ (of_opcode (of_unit u).opcode).kind (of_unit u).state
whole (unit.Oscil s) = refl
whole u = refl

-- a unit's definition is given by its opcode and its state
by_state : (u : UnitState) → of_unit u ≡ with_state (of_unit u).opcode (of_unit u).state
by_state (unit.Oscil s) = refl
by_state u = refl

-- the unit of a state has performed the steps of the state
kept : (o : Opcode) (rate : Rate) (pace : Pace) (settled : List ℤ) (inputs : List (List ℤ)) (u : UnitState)
    (s : (of_opcode o).State) → IsUnitOpcode o → u ≡ (of_opcode o).kind s
    → (of_opcode o).stands s rate pace settled inputs → Stands u o rate pace settled inputs
kept o rate pace settled inputs u s is same stands =
    let found : of_unit u ≡ with_state o s = ap of_unit same ∙ state_found o is s in
    record {
      opcode = ap (λ v. v.opcode) found;
      state = subst (λ v. v.stands rate pace settled inputs) (sym found) stands;
    }

pub state_starts : (o : Opcode) (rate : Rate) (pace : Pace) (settled : List ℤ) → IsUnitOpcode o
    → Stands (unit_start o rate pace settled) o rate pace settled []
state_starts o rate pace settled is =
    kept o rate pace settled [] (unit_start o rate pace settled) ((of_opcode o).start rate pace settled) is
    (begins o rate pace settled) ((law_of o).starts rate pace settled)

-- a step of a unit is a step of its state
stepped : (u : UnitState) (x : List ℤ) → unit_step u x ≡ (with_state (of_unit u).opcode (of_unit u).state).step x
stepped u x = ap (λ v. v.step x) (by_state u)

next : (u : UnitState) (x : List ℤ) → of_unit (unit_step u x).0
    ≡ with_state (opcode_of u) ((of_opcode (opcode_of u)).step (of_unit u).state x).0
next u x = ap (λ r. of_unit r.0) (stepped u x)
    ∙ state_found (opcode_of u) (is_unit u) ((of_opcode (opcode_of u)).step (of_unit u).state x).0

pub opcode_stays : (u : UnitState) (x : List ℤ) → opcode_of (unit_step u x).0 ≡ opcode_of u
opcode_stays u x = ap (λ v. v.opcode) (next u x)

-- the steps that a unit has performed are the steps of its state
behind : (u : UnitState) (rate : Rate) (pace : Pace) (settled : List ℤ) (inputs : List (List ℤ))
    → StateStands u rate pace settled inputs
    → (of_opcode (opcode_of u)).stands (of_unit u).state rate pace settled inputs
behind u rate pace settled inputs h = subst (λ v. v.stands rate pace settled inputs) (by_state u) h

pub answers : (u : UnitState) (o : Opcode) (rate : Rate) (pace : Pace) (settled : List ℤ) (before : List (List ℤ))
    (x : List ℤ) → Stands u o rate pace settled before → (unit_step u x).1 ≡ gen o rate pace settled (before ++ x ∷ [])
unfolding gen
answers u o rate pace settled before x h =
    ap (λ r. r.1) (stepped u x) ∙ (law_of (opcode_of u)).answers (of_unit u).state rate pace settled before x
    (behind u rate pace settled before h.state)
    ∙ ap (λ p. (of_opcode p).formula rate pace settled (before ++ x ∷ [])) h.opcode

pub goes_on : (u : UnitState) (o : Opcode) (rate : Rate) (pace : Pace) (settled : List ℤ) (before : List (List ℤ))
    (x : List ℤ) → Stands u o rate pace settled before → Stands (unit_step u x).0 o rate pace settled (before ++ x ∷ [])
goes_on u o rate pace settled before x h = record {
  opcode = opcode_stays u x ∙ h.opcode;
  state = subst (λ v. v.stands rate pace settled (before ++ x ∷ [])) (sym (next u x))
      ((law_of (opcode_of u)).goes_on (of_unit u).state rate pace settled before x
      (behind u rate pace settled before h.state));
}

-- the law of every opcode
pub units : (o : Opcode) → IsUnitOpcode o → IsUnit (gen o) (unit_start o) unit_step (λ u. Stands u o)
units o is = record {
  starts = λ rate pace settled. state_starts o rate pace settled is;
  answers = λ u rate pace settled before x h. answers u o rate pace settled before x h;
  goes_on = λ u rate pace settled before x h. goes_on u o rate pace settled before x h;
}

-- a run of a unit is the run of the state within it
run_within : (o : Opcode) (is : IsUnitOpcode o) (at : ℕ → List ℤ) (s : (of_opcode o).State) (j n : ℕ) →
    run unit_step at ((of_opcode o).kind s) j n
    ≡ ((of_opcode o).kind (run (of_opcode o).step at s j n).0, (run (of_opcode o).step at s j n).1)
run_within o is at s j zero = refl
run_within o is at s j (suc n) =
    let here = of_opcode o in
    let same : unit_step (here.kind s) (at j) ≡ (here.kind (here.step s (at j)).0, (here.step s (at j)).1) =
    ap (λ u. u.step (at j)) (state_found o is s) in
    ap (λ r. ((run unit_step at r.0 (j + 1) n).0, r.1 ∷ (run unit_step at r.0 (j + 1) n).1)) same
    ∙ ap (λ r. (r.0, (here.step s (at j)).1 ∷ r.1)) (run_within o is at (here.step s (at j)).0 (j + 1) n)

by_cases : (u : UnitState) (at : ℕ → List ℤ) (n : ℕ) → state_run u at n ≡ run_of (of_unit u) at n
by_cases (unit.Oscil s) at n = refl
by_cases u at n = refl

pub runs : (u : UnitState) (at : ℕ → List ℤ) (n : ℕ) → state_run u at n ≡ run unit_step at u 0 n
runs u at n = by_cases u at n
    ∙ sym (ap (λ v. run unit_step at v 0 n) (whole u) ∙ run_within (opcode_of u) (is_unit u) at (of_unit u).state 0 n)
