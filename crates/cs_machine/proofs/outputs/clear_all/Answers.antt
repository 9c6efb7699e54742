use Rattle.std.proofs.Common.{◌∙◌, [], ap, arith, length, pos, replicate, slice_index_or}
use Rattle.std.proofs.lemmas.List.{get_or_default, length-set}
use Rattle.cs_machine.proofs.Channels.{all_cleared, cleared_more, length_kept}
use Rattle.cs_machine.proofs.outputs.clear_all.Goals as goal

pub loop-n-preserved : goal.loop-n-preserved
loop-n-preserved c = record {
  silent = cleared_more c.loop-n.channels
      (length (slice_index_or c.loop-n.channels c.loop-n.n c.index-channels-n.result)) c.loop-n.n c.clear.new.self
      (omega arith) c.clear.ensures c.loop-n.invariant.silent;
  rows = λ ksmps all. length_kept c.loop-n.channels ksmps c.loop-n.n c.clear.new.self (omega arith)
      (c.clear.ensures ∙ ap (λ row. replicate (length row) (pos 0))
      (get_or_default c.loop-n.channels c.loop-n.n c.index-channels-n.result [] (omega arith)))
      (c.loop-n.invariant.rows ksmps all);
  long = length-set c.loop-n.channels c.loop-n.n c.clear.new.self ∙ c.loop-n.invariant.long;
}

pub returns-clause-silent : goal.returns-clause-silent
returns-clause-silent c = all_cleared c.loop-n.channels c.loop-n.n (omega arith) c.loop-n.invariant.silent
