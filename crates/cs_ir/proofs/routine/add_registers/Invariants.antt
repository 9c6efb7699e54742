use Rattle.std.proofs.Common.{◌≡◌, max, take}
use Rattle.cs_ir.specs.{Registers.at_kind, Registers.regs_limit, declared.register.Kind.Kind}
use Rattle.cs_ir.proofs.routine.add_registers.Given as goal

abbrev pub invariant-loop-register : goal.invariant-loop-register
invariant-loop-register l =
    (k : Kind) → at_kind l.limits k
    ≡ max (at_kind l.initial.limits k) (regs_limit k (take l.register-index l.registers))
