use Rattle.std.proofs.Common.{◌≡◌, drop}
use Rattle.cs_code.specs.inner.Code.{out_ops}
use Rattle.cs_code.proofs.Growing.{Leads}
use Rattle.cs_code.proofs.simple.out_ops.Given as goal

abbrev pub invariant-loop-reg : goal.invariant-loop-reg
invariant-loop-reg l =
    (l.channel ≡ l.reg-index)
    × Leads l.initial.ops l.ops (out_ops l.channel (drop l.reg-index l.regs)) (out_ops 0 l.regs)
