use Rattle.std.proofs.Common.{◌∙◌, ap, length, refl}
use Rattle.cs_ir.specs.Waves.{constant}
use Rattle.cs_machine.proofs.Frames.{vector_frames, vector_long}
use Rattle.cs_machine.proofs.registers.Registers.hold.Goals as goal

pub returns-then-is_audio-clause-values : goal.returns-then-is_audio-clause-values
returns-then-is_audio-clause-values c = c.swap.ensures.values (constant c.args.value)
    (vector_frames (constant c.args.value) c.args.row.now.len c.fill.new.out c.args.row.now.items
    (c.fill.ensures.long ∙ c.deref_mut.ensures.len) c.fill.ensures.frames)

pub returns-else-is_audio-clause-values : goal.returns-else-is_audio-clause-values
returns-else-is_audio-clause-values c = c.set.ensures (constant c.args.value) refl

pub swap-requires-clause-row : goal.swap-requires-clause-row
swap-requires-clause-row c = vector_long c.args.row.now.len _ c.fill.new.out c.args.row.now.items
    (c.fill.ensures.long ∙ c.deref_mut.ensures.len)
    (c.fill.ensures.long ∙ ap length c.deref_mut.ensures.value ∙ c.requires.row)
