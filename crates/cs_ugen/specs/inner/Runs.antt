-- Runs of the state within a unit.
use Rattle.std.specs.Prelude.{ℕ, List, ℤ}
use Rattle.cs_signal.specs.Steps.{run}
use Rattle.cs_ugen.specs.{Units.OfUnit, Units.of_opcode, Units.of_unit, declared.unit.UnitState.UnitState}
use Rattle.cs_ugen.specs.declared.unit.UnitState.TheVariants as unit

-- n steps of a state, where `at` maps a step to its inputs: the unit of the state afterwards, and the results
abbrev pub run_of : OfUnit → (ℕ → List ℤ) → ℕ → UnitState × List ℤ
run_of u at n = let here = of_opcode u.opcode in let r = run here.step at u.state 0 n in (here.kind r.0, r.1)

-- n steps of a unit, performed on its state; defined by cases, so that it computes as soon as the kind is
-- known
abbrev pub state_run : UnitState → (ℕ → List ℤ) → ℕ → UnitState × List ℤ
state_run (unit.Oscil s) at n = run_of (of_unit (unit.Oscil s)) at n
state_run u at n = run_of (of_unit u) at n
