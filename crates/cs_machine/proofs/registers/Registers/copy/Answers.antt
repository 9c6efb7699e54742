use Rattle.std.proofs.Common.{◌∙◌, ap, length}
use Rattle.cs_signal.specs.Operands.{operand_at}
use Rattle.cs_machine.specs.Registers.{values}
use Rattle.cs_machine.proofs.Frames.{frames_as, vector_frames, vector_long}
use Rattle.cs_machine.proofs.registers.Registers.copy.Goals as goal

pub returns-then-is_audio-clause-values : goal.returns-then-is_audio-clause-values
returns-then-is_audio-clause-values c =
    let w = values c.args.self.now c.args.x in
    c.swap.ensures.values w (vector_frames w c.args.row.now.len c.copy.new.out c.args.row.now.items
    (c.copy.ensures.long ∙ c.deref_mut.ensures.len)
    (frames_as (operand_at c.operand.result) w c.copy.new.out c.copy.ensures.frames c.operand.ensures.value))

pub returns-else-is_audio-clause-values : goal.returns-else-is_audio-clause-values
returns-else-is_audio-clause-values c = c.set.ensures (values c.args.self.now c.args.x) c.first.ensures

pub swap-requires-clause-row : goal.swap-requires-clause-row
swap-requires-clause-row c = vector_long c.args.row.now.len _ c.copy.new.out c.args.row.now.items
    (c.copy.ensures.long ∙ c.deref_mut.ensures.len)
    (c.copy.ensures.long ∙ ap length c.deref_mut.ensures.value ∙ c.requires.row)
