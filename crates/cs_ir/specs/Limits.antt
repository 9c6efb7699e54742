-- The limit of register numbers that ops use, by kind: one more than the greatest number used.
use Rattle.std.specs.Prelude.{ℕ, max, List}
use Rattle.cs_ir.specs.Registers.{most, reg_limit, regs_limit}
use Rattle.cs_ir.specs.{declared.op.Op.Op, declared.register.Kind.Kind}

-- one more than the greatest number of a register of kind k that an op uses
abbrev pub op_limit : Kind → Op → ℕ
op_limit k op = max (reg_limit k op.into) (regs_limit k op.from)

-- one more than the greatest number of a register of kind k that these ops use
abbrev pub ops_limit : Kind → List Op → ℕ
ops_limit k ops = most (op_limit k) ops
