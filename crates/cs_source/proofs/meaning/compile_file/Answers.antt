use Rattle.std.proofs.Common.{Err, arith}
use Rattle.cs_source.proofs.Meanings.{parts_mean}
use Rattle.cs_source.proofs.meaning.compile_file.Goals as goal

pub returns-in-Ok-clause-refused : goal.returns-in-Ok-clause-refused
returns-in-Ok-clause-refused c =
    λ r h. parts_mean c.args.width c.args.text.now c.in-Ok.parts (Err r)
    (omega (arith, c.if-text-gt-MOST_CSD_BYTES.false)) c.in-Ok.ensures (c.compile_parts.ensures.refused r h)
