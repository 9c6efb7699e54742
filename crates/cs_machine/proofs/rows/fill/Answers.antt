use Rattle.std.proofs.Common.{length, subst, sym}
use Rattle.cs_ir.specs.Waves.{constant}
use Rattle.cs_machine.specs.Rows.{HasFrames}
use Rattle.cs_machine.proofs.Frames.{filled_row}
use Rattle.cs_machine.proofs.rows.fill.Goals as goal

pub returns-clause-frames : goal.returns-clause-frames
returns-clause-frames c =
    subst (HasFrames (constant c.args.value)) (sym (c.fill.ensures.after (λ y e. e)))
    (filled_row (length c.args.out.now) c.args.value)
