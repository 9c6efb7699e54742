use Rattle.std.proofs.Common.{arith}
use Rattle.cs_voice.specs.Mixing.{sum_at}
use Rattle.cs_voice.proofs.Columns.{all_frames}
use Rattle.cs_voice.proofs.adding.mix.Goals as goal

pub returns-clause-sums : goal.returns-clause-sums
returns-clause-sums c =
    all_frames c.args.channels (sum_at c.args.voices.now) c.args.frames c.loop-channel.out c.loop-channel.invariant.long
    (λ j d row column. c.loop-channel.invariant.sums j d row (omega (arith, column, c.loop-channel-test.false)))
