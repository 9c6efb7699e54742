use Rattle.std.proofs.Common.{arith, drop}
use Rattle.std.proofs.lemmas.List.{drop_all}
use Rattle.cs_code.proofs.{Growing.leads_end, Outs.out_at_end, Outs.out_at_number, Outs.out_at_value}
use Rattle.cs_code.proofs.simple.out_at_ops.Goals.{in-None, in-Some+in_ok-push-in-Some}
use Rattle.cs_code.proofs.simple.out_at_ops.Goals as goal

pub loop-reg-preserved : goal.loop-reg-preserved
loop-reg-preserved c =
    elim c.match-channel.branch [
      | in-None w ↦
          out_at_number c.args.ops.now c.loop-reg.ops c.match-channel.ops c.loop-reg.reg-index c.args.regs.now _
          c.loop-reg.channel c.match-channel.channel _ (omega arith) c.loop-reg.invariant w.in-None.is w.channel-is
          w.ops-is
      | in-Some+in_ok-push-in-Some w ↦
          out_at_value c.args.ops.now c.loop-reg.ops c.match-channel.ops c.loop-reg.reg-index c.args.regs.now _
          c.loop-reg.channel c.match-channel.channel _ (omega arith) c.loop-reg.invariant w.push.new.ops
          w.in-Some.number w.two.result w.in-Some.is w.channel-is w.ops-is w.two.ensures w.in_ok-push-in-Some.ensures
    ]

pub returns : goal.returns
returns c =
    leads_end c.args.ops.now c.loop-reg.ops _ _ c.loop-reg.invariant
    (out_at_end c.loop-reg.channel (drop c.loop-reg.reg-index c.args.regs.now)
    (drop_all c.loop-reg.reg-index c.args.regs.now (omega (arith, c.loop-reg-test.false))))
