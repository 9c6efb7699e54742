-- Ops in their window, and the registers that they read there.
use Rattle.std.specs.Prelude.{List, map}
use Rattle.cs_ir.specs.{Flat.moved_op, Flat.moved_reg, declared.op.Op.Op, declared.register.Reg.Reg}
use Rattle.cs_ir.specs.{declared.window.OpAt.OpAt, declared.window.Reads.Reads}

-- an op in its window; the target of a jump is unchanged, because it counts steps
abbrev pub there : OpAt → Op
there o = moved_op o.window.now 0 o.op.now

-- the registers that are read, in their window
abbrev pub regs_read : Reads → List Reg
regs_read r = map (moved_reg r.window.now) r.registers.now
