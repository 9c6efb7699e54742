-- Ops that only the code that begins a note has; and where ops that jump go on.
use Rattle.std.specs.Prelude.{ℕ, ◌≡◌, ◌+◌, Bool, true, false, List, if◌then◌else◌}
use Rattle.cs_ir.specs.{Values.holds, Waves.Wave, Waves.operand, declared.op.Act.Act}
use Rattle.cs_ir.specs.declared.op.Act.TheVariants as act

-- whether an act is one that only the code that begins a note has
abbrev pub is_start : Act → Bool
is_start (act.Start opcode u) = true
is_start act.Seek = true
is_start act.Ask = true
is_start _ = false

-- an op at one index goes on at another
abbrev pub GoesOn : Act → List Wave → ℕ → ℕ → Type 0
GoesOn (act.Jump later) ws place to = to ≡ later
GoesOn (act.Unless later) ws place to = to ≡ (if holds (operand 0 ws 0) then place + 1 else later)
GoesOn _ ws place to = ⊥
