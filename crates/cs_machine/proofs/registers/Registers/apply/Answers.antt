use Rattle.std.proofs.Common.{◌∙◌, ap, length}
use Rattle.cs_ir.specs.{Values.applied, Waves.Wave}
use Rattle.cs_signal.specs.Operands.{operand_at}
use Rattle.cs_machine.specs.Registers.{values}
use Rattle.cs_machine.proofs.Frames.{frames_as, vector_frames, vector_long}
use Rattle.cs_machine.proofs.registers.Registers.apply.Goals as goal

pub returns-then-is_audio-clause-values : goal.returns-then-is_audio-clause-values
returns-then-is_audio-clause-values c =
    let w : Wave = λ j. applied c.args.function (values c.args.self.now c.args.x j) in
    c.swap.ensures.values w (vector_frames w c.args.row.now.len c.apply_row.new.out c.args.row.now.items
    (c.apply_row.ensures.long ∙ c.deref_mut.ensures.len)
    (frames_as (λ j. applied c.args.function (operand_at c.operand.result j)) w c.apply_row.new.out
    c.apply_row.ensures.frames (λ j. ap (applied c.args.function) (c.operand.ensures.value j))))

pub returns-else-is_audio-clause-values : goal.returns-else-is_audio-clause-values
returns-else-is_audio-clause-values c = c.set.ensures (λ j. applied c.args.function (values c.args.self.now c.args.x j))
    (c.apply.ensures ∙ ap (applied c.args.function) c.first.ensures)

pub swap-requires-clause-row : goal.swap-requires-clause-row
swap-requires-clause-row c = vector_long c.args.row.now.len _ c.apply_row.new.out c.args.row.now.items
    (c.apply_row.ensures.long ∙ c.deref_mut.ensures.len)
    (c.apply_row.ensures.long ∙ ap length c.deref_mut.ensures.value ∙ c.requires.row)
