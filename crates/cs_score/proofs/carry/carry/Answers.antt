use Rattle.std.proofs.Common.{ap, ◌∙◌}
use Rattle.cs_score.specs.inner.State.{filled}
use Rattle.cs_score.proofs.Carried.{all_written, taken_behind}
use Rattle.cs_score.proofs.carry.carry.Goals as goal

pub invariant_of-result : goal.invariant_of-result
invariant_of-result c = record { taken = rw (c.len-count.ensures, c.none.ensures) (all_written c.args.written) }

pub invariant_of-result-2 : goal.invariant_of-result-2
invariant_of-result-2 c = record {
  taken = rw c.len-count.ensures (taken_behind c.args.written c.args.last.fields c.in_ok-fields.fields c.args.last.more
      c.args.last.more_are_values
      (c.in_ok-fields.ensures ∙ ap (λ ws. filled ws c.args.last.fields) c.as_slice.ensures));
}
