use Rattle.cs_report.proofs.Saying.{said_more, said_part}
use Rattle.cs_report.proofs.talk.say.Goals as goal

pub returns-in-Err-clause-part : goal.returns-in-Err-clause-part
returns-in-Err-clause-part g c =
    said_part (λ piece. piece.now) c.args.pieces.now c.loop-piece.piece-index _ c.as_bytes.result.now _ _ _
    c.loop-piece-test.true
    c.as_bytes.ensures.value c.loop-piece.invariant c.in-Err.ensures.part

pub loop-piece-preserved : goal.loop-piece-preserved
loop-piece-preserved g c =
    said_more (λ piece. piece.now) c.args.pieces.now c.loop-piece.piece-index _ c.as_bytes.result.now _ _ _
    c.loop-piece-test.true
    c.as_bytes.ensures.value c.loop-piece.invariant c.in_default.ensures.written
