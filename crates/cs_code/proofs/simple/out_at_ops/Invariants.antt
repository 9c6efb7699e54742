use Rattle.std.proofs.Common.{◌++◌, drop, option_to_list}
use Rattle.cs_code.specs.inner.Code.{out_at_ops}
use Rattle.cs_code.proofs.Growing.{Leads}
use Rattle.cs_code.proofs.simple.out_at_ops.Given as goal

abbrev pub invariant-loop-reg : goal.invariant-loop-reg
invariant-loop-reg l =
    Leads l.initial.ops l.ops (out_at_ops (option_to_list l.channel ++ drop l.reg-index l.regs)) (out_at_ops l.regs)
