-- A step doesn't change a unit's opcode.
use Rattle.std.proofs.Common.{◌≡◌, ℕ, zero, suc, ◌+◌, List, ℤ, refl, ◌∙◌, ap}
use Rattle.cs_signal.specs.Steps.{run}
use Rattle.cs_ugen.proofs.Units.{opcode_stays}
use Rattle.cs_ugen.specs.{Units.opcode_of, Units.unit_step, declared.unit.UnitState.UnitState}

same_run : (at : ℕ → List ℤ) (k : UnitState) (j n : ℕ) → opcode_of (run unit_step at k j n).0 ≡ opcode_of k
same_run at k j zero = refl
same_run at k j (suc n) = same_run at (unit_step k (at j)).0 (j + 1) n ∙ opcode_stays k (at j)

-- a unit that has run has the same opcode
pub same_unit : (at : ℕ → List ℤ) (k t : UnitState) (j n : ℕ) (row : List ℤ) → (t, row) ≡ run unit_step at k j n
    → opcode_of t ≡ opcode_of k
same_unit at k t j n row e = ap (λ r. opcode_of r.0) e ∙ same_run at k j n
