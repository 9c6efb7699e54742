use Rattle.std.proofs.Common.{◌∙◌, ◌<◌, arith, length, slice_index_or}
use Rattle.std.proofs.lemmas.List.{length-set}
use Rattle.cs_ir.specs.Placed.{regs_read}
use Rattle.cs_machine.proofs.Frames.{one_more}
use Rattle.cs_machine.specs.{Registers.values, inner.Gathered.no_register}
use Rattle.cs_machine.proofs.gather.firsts.Goals as goal

pub loop-j-preserved : goal.loop-j-preserved
loop-j-preserved c =
    let from = regs_read c.args.from in
    let here : c.loop-j.j < length from = omega (arith, c.loop-j-test.true, c.len-j-end.ensures) in
    record {
      first = one_more (λ i. values c.args.regs.now (slice_index_or from i no_register) 0) c.loop-j.inputs c.loop-j.j
          c.first_at.result (omega (arith, here, c.requires.few, c.loop-j.invariant.long)) c.loop-j.invariant.first
          (c.first_at.ensures here);
      long = length-set c.loop-j.inputs c.loop-j.j c.first_at.result ∙ c.loop-j.invariant.long;
    }
