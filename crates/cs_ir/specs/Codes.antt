-- The jumps of a code, and their targets.
use Rattle.std.specs.Prelude.{ℕ, zero, suc, Bool, true, ◌==◌, List, [], ◌∷◌}
use Rattle.cs_ir.specs.{declared.op.Act.Act, declared.op.Op.Op}
use Rattle.cs_ir.specs.declared.op.Act.TheVariants as act

-- an act with its target set to a place, if it is a jump
abbrev pub aimed : ℕ → Act → Act
aimed to (act.Jump old) = act.Jump to
aimed to (act.Unless old) = act.Unless to
aimed to a = a

-- ops in which the target of the jump at a place, if there is one, is set to another place
abbrev pub aim : ℕ → ℕ → List Op → List Op
aim place to [] = []
aim zero to (op ∷ ops) = record op { act = aimed to op.act } ∷ ops
aim (suc n) to (op ∷ ops) = op ∷ aim n to ops

-- whether an act isn't a jump, or is a jump whose target isn't set yet
abbrev pub is_unaimed : Act → Bool
is_unaimed (act.Jump to) = to == 0
is_unaimed (act.Unless to) = to == 0
is_unaimed a = true
