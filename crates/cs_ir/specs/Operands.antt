-- The registers that an op reads.
use Rattle.std.specs.Prelude.{◌<◌, ◌≤◌, List, length, take}
use Rattle.cs_ir.specs.{declared.operands.Stored.Stored, declared.register.Reg.Reg}
use Rattle.cs_ir.specs.declared.operands.Stored.TheVariants as stored

-- the list of stored operands
abbrev pub registers : Stored → List Reg
registers (stored.Few count xs) = take count xs
registers (stored.More v) = v.items

-- at most three operands are stored in the op itself, more of them in a vector
abbrev pub IsStored : Stored → Type 0
IsStored (stored.Few count xs) = count ≤ 3
IsStored (stored.More v) = 3 < length v.items
