use Rattle.std.proofs.Common.{refl}
use Rattle.std.specs.Prelude.{slice_index}
use Rattle.cs_signal.proofs.Pieces.{HasPassed-more}
use Rattle.cs_signal.proofs.linseg.place_of.Goals as goal

pub loop-k-preserved : goal.loop-k-preserved
loop-k-preserved c =
    HasPassed-more c.args.lengths.now c.args.number c.loop-k.k c.loop-k.begin
    (slice_index c.args.lengths.now c.loop-k.k) c.loop-k.invariant c.loop-k-test.true refl c.if-number-begin.false
