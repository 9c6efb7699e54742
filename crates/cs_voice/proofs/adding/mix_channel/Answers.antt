use Rattle.std.proofs.Common.{◌∙◌, ltb-true, nat_lt}
use Rattle.cs_base.proofs.Tests.{by_test}
use Rattle.cs_machine.proofs.Frames.{at_or_past}
use Rattle.cs_voice.proofs.adding.mix_channel.Goals as goal

pub loop-from-preserved : goal.loop-from-preserved
loop-from-preserved c =
    let part = c.mix_part-from.ensures in
    record {
      sums = λ j low. by_test (nat_lt j c.loop-from.from)
          (λ yes. let early = ltb-true j c.loop-from.from yes in part.before j early
          ∙ c.loop-from.invariant.sums j early)
          (λ no. part.sums j (at_or_past j c.loop-from.from no) low);
      small = λ j low. by_test (nat_lt j c.loop-from.from)
          (λ yes. c.loop-from.invariant.small j (ltb-true j c.loop-from.from yes))
          (λ no. part.small j (at_or_past j c.loop-from.from no) low);
      others = λ j d high other. part.others j d high other ∙ c.loop-from.invariant.others j d high other;
      long = part.long ∙ c.loop-from.invariant.long;
    }
