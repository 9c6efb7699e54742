use Rattle.std.proofs.Common.{arith}
use Rattle.cs_ir.proofs.Reaching.{more_limit, most_next}
use Rattle.cs_ir.specs.Registers.{reg_limit}
use Rattle.cs_ir.proofs.routine.add_registers.Goals as goal

pub loop-register-preserved : goal.loop-register-preserved
loop-register-preserved c = λ k.
    more_limit _ _ _ _ _ _ (c.in_ok-add_register.ensures k) (c.loop-register.invariant k)
    (most_next (reg_limit k) c.args.registers.now c.loop-register.register-index _
    (omega (arith, c.loop-register-test.true)))
