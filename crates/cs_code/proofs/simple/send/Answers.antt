use Rattle.std.proofs.Common.{subst}
use Rattle.cs_ir.proofs.Drafting.{grew_on}
use Rattle.cs_ir.specs.Drafts.{Grew}
use Rattle.cs_code.specs.inner.Emitted.{expressions_of}
use Rattle.cs_code.proofs.Calls.{sent_pass}
use Rattle.cs_code.proofs.simple.send.Goals as goal

pub returns-in_ok-send_regs-in-Performance-clause-ops : goal.returns-in_ok-send_regs-in-Performance-clause-ops
returns-in_ok-send_regs-in-Performance-clause-ops c =
    subst (Grew c.args.ops.now c.send_regs.new.ops)
    (sent_pass c.args.context.pass c.args.p c.args.sending (expressions_of c.args.values.now) c.deref.result.now
    c.in_ok-found-in-Performance.found.regs.items c.in-Performance.is c.in_ok-found-in-Performance.ensures.regs
    c.deref.ensures.value)
    (grew_on c.args.ops.now c.operands.new.ops c.send_regs.new.ops _ _ c.in_ok-found-in-Performance.ensures.ops
    c.in_ok-send_regs-in-Performance.ensures)
