use Rattle.std.proofs.Common.{arith}
use Rattle.cs_ir.proofs.Taking.{all_taken}
use Rattle.cs_ir.proofs.validity.take_all.Goals as goal

pub returns : goal.returns
returns c =
    all_taken c.args.letters.now c.loop-letter.letter-index c.args.bound c.loop-letter.place c.args.from.now _
    c.loop-letter.invariant.1 (omega (arith, c.loop-letter-test.false)) c.loop-letter.invariant.0
