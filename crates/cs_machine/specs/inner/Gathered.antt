-- Arguments of a unit that are registers.
use Rattle.std.specs.Prelude.{ℕ, ℤ, ◌≡◌, List, pos, slice_index_or}
use Rattle.cs_ir.specs.{Waves.Wave, declared.register.Reg.Reg}
use Rattle.cs_signal.specs.{Operands.operand_at, declared.operand.Operand.Operand}
use Rattle.cs_ir.specs.declared.register.Kind.TheVariants as kind
use Rattle.cs_signal.specs.declared.operand.Operand.TheVariants as operand

-- what is read after the end of a list, which no op does
abbrev pub no_register : Reg
no_register = record { kind = kind.TemporaryInit; offset = 0 }

-- what is read after the end of a list of operands
abbrev pub no_operand : Operand
no_operand = operand.Held (pos 0)

-- an operand has the value of a register at each frame
abbrev pub HoldsOperand : (Reg → Wave) → Operand → Reg → Type 0
HoldsOperand f o r = (frame : ℕ) → operand_at o frame ≡ f r frame

-- an operand has the value of the register at its index, at each frame
abbrev pub StandsAt : (Reg → Wave) → List Operand → List Reg → ℕ → Type 0
StandsAt f os rs j = HoldsOperand f (slice_index_or os j no_operand) (slice_index_or rs j no_register)

-- a number is the value of the register at its index, at the first frame
abbrev pub IsFirstAt : (Reg → Wave) → List ℤ → List Reg → ℕ → Type 0
IsFirstAt f xs rs j = slice_index_or xs j (pos 0) ≡ f (slice_index_or rs j no_register) 0
