use Rattle.std.proofs.Common.{◌+◌, arith, ap}
use Rattle.std.proofs.lemmas.List.{drop_all}
use Rattle.cs_code.specs.inner.Code.{out_ops}
use Rattle.cs_code.proofs.{Growing.leads_end, Outs.out_more}
use Rattle.cs_code.proofs.simple.out_ops.Goals as goal

pub loop-reg-preserved : goal.loop-reg-preserved
loop-reg-preserved c = (
  ap (λ k. k + 1) c.loop-reg.invariant.0,
  out_more c.args.ops.now c.loop-reg.ops c.push.new.ops c.loop-reg.channel c.loop-reg.reg-index c.args.regs.now _
      c.one.result _ (omega arith) c.one.ensures c.in_ok-push.ensures c.loop-reg.invariant.1,
)

pub returns : goal.returns
returns c =
    leads_end c.args.ops.now c.loop-reg.ops _ _ c.loop-reg.invariant.1 (ap (out_ops c.loop-reg.channel)
    (drop_all c.loop-reg.reg-index c.args.regs.now (omega (arith, c.loop-reg-test.false))))
