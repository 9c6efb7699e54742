use Rattle.std.proofs.Common.{◌∙◌, ap, length}
use Rattle.cs_ir.specs.{Values.combined, Waves.Wave, Waves.both}
use Rattle.cs_signal.specs.Operands.{operand_at}
use Rattle.cs_machine.specs.Registers.{values}
use Rattle.cs_machine.proofs.Frames.{frames_as, vector_frames, vector_long}
use Rattle.cs_machine.proofs.registers.Registers.combine.Goals as goal

pub returns-then-is_audio-clause-values : goal.returns-then-is_audio-clause-values
returns-then-is_audio-clause-values c =
    let w : Wave = both c.args.operator (values c.args.self.now c.args.x) (values c.args.self.now c.args.y) in
    c.swap.ensures.values w (vector_frames w c.args.row.now.len c.combine_row.new.out c.args.row.now.items
    (c.combine_row.ensures.long ∙ c.deref_mut.ensures.len)
    (frames_as (both c.args.operator (operand_at c.operand.result) (operand_at c.operand-then-is_audio.result)) w
    c.combine_row.new.out c.combine_row.ensures.frames
    (λ j. ap (λ z. combined c.args.operator z (operand_at c.operand-then-is_audio.result j)) (c.operand.ensures.value j)
    ∙ ap (combined c.args.operator (values c.args.self.now c.args.x j)) (c.operand-then-is_audio.ensures.value j))))

pub returns-else-is_audio-clause-values : goal.returns-else-is_audio-clause-values
returns-else-is_audio-clause-values c =
    c.set.ensures (both c.args.operator (values c.args.self.now c.args.x) (values c.args.self.now c.args.y))
    (c.combine.ensures ∙ ap (λ z. combined c.args.operator z c.first-else-is_audio.result) c.first.ensures
    ∙ ap (combined c.args.operator (values c.args.self.now c.args.x 0)) c.first-else-is_audio.ensures)

pub swap-requires-clause-row : goal.swap-requires-clause-row
swap-requires-clause-row c = vector_long c.args.row.now.len _ c.combine_row.new.out c.args.row.now.items
    (c.combine_row.ensures.long ∙ c.deref_mut.ensures.len)
    (c.combine_row.ensures.long ∙ ap length c.deref_mut.ensures.value ∙ c.requires.row)
