-- The arguments of a unit, and their values over a control cycle.
use Rattle.std.specs.Prelude.{ℕ, ◌≡◌, ◌<◌, List, length, map, ℤ, pos, slice_index_or}
use Rattle.cs_signal.specs.declared.operand.Operand.{Operand}
use Rattle.cs_signal.specs.declared.operand.Operand.TheVariants.{Held, Row}

-- the argument at place k, counted from 0; a missing one is 0
abbrev pub argument : List ℤ → ℕ → ℤ
argument arguments k = slice_index_or arguments k (pos 0)

-- an operand's value at frame j of the cycle
abbrev pub operand_at : Operand → ℕ → ℤ
operand_at (Held value) j = value
operand_at (Row values) j = argument values.now j

-- an operand has a value for each of n frames
abbrev pub Lasts : ℕ → Operand → Type 0
Lasts n (Held value) = Unit {0}
Lasts n (Row values) = length values.now ≡ n

-- an operand has a value for frame j
abbrev pub Reaches : ℕ → Operand → Type 0
Reaches j (Held value) = Unit {0}
Reaches j (Row values) = j < length values.now

-- the inputs of a step at frame j, read from its operands
abbrev pub inputs_at : List Operand → ℕ → List ℤ
inputs_at operands j = map (λ x. operand_at x j) operands
