use Rattle.std.proofs.Common.{◌∙◌, ap, length, map, sym}
use Rattle.cs_cells.specs.Cells.{cell}
use Rattle.cs_meaning.specs.Pieces.{step_at}
use Rattle.cs_ir.specs.{Placed.regs_read, Registers.rate_at, Waves.Wave}
use Rattle.cs_machine.proofs.Frames.{vector_frames}
use Rattle.cs_machine.specs.Registers.{values}
use Rattle.cs_signal.specs.Operands.{argument}
use Rattle.cs_voice.specs.Units.{cycled}
use Rattle.cs_voice.proofs.Playing.{audio_frames, audio_state, held_gives, held_state, same_data}
use Rattle.cs_voice.proofs.unit.play.Goals as goal

pub returns-then-is_audio-clause-values : goal.returns-then-is_audio-clause-values
returns-then-is_audio-clause-values g c =
    let ws = map (values c.args.regs.now) (regs_read c.args.from) in
    let cells = cell (g.B.Bank.cells c.args.bank.now) in
    let w : Wave = λ j. argument (cycled c.args.regs.now.ksmps (rate_at c.args.into) ws cells c.args.player.now).1
    (step_at (rate_at c.args.into) j) in
    c.swap.ensures.values w (vector_frames w c.args.row.now.len c.block.new.row c.args.row.now.items
    (c.block.auto.row ∙ c.deref_mut.ensures.len)
    (audio_frames c.args.regs.now.ksmps (length c.deref_mut.result.now) (rate_at c.args.into) ws cells c.args.player.now
    c.block.new.player.state c.block.new.row (sym c.is_audio.ensures ∙ c.if-is_audio.true)
    (ap length c.deref_mut.ensures.value ∙ c.requires.row) c.block.ensures.value))

pub returns-then-is_audio-clause-unit : goal.returns-then-is_audio-clause-unit
returns-then-is_audio-clause-unit g c =
    same_data c.args.player.now c.block.new.player _ c.block.ensures.player
    (audio_state c.args.regs.now.ksmps (length c.deref_mut.result.now) (rate_at c.args.into)
    (map (values c.args.regs.now) (regs_read c.args.from)) (cell (g.B.Bank.cells c.args.bank.now)) c.args.player.now
    c.block.new.player.state c.block.new.row (sym c.is_audio.ensures ∙ c.if-is_audio.true)
    (ap length c.deref_mut.ensures.value ∙ c.requires.row) c.block.ensures.value)

pub returns-else-is_audio-clause-unit : goal.returns-else-is_audio-clause-unit
returns-else-is_audio-clause-unit g c =
    same_data c.args.player.now c.step-value.new.player _ c.step-value.ensures.player
    (held_state c.args.regs.now.ksmps (rate_at c.args.into) (map (values c.args.regs.now) (regs_read c.args.from))
    (cell (g.B.Bank.cells c.args.bank.now)) c.args.player.now c.step-value.new.player.state c.step-value.result
    (sym c.is_audio.ensures ∙ c.if-is_audio.false) c.step-value.ensures.value)

pub returns-else-is_audio-clause-values : goal.returns-else-is_audio-clause-values
returns-else-is_audio-clause-values g c =
    c.set.ensures _
    (ap (λ (w : Wave). w 0) (held_gives c.args.regs.now.ksmps (rate_at c.args.into) (map (values c.args.regs.now)
    (regs_read c.args.from)) (cell (g.B.Bank.cells c.args.bank.now)) c.args.player.now
    c.step-value.new.player.state c.step-value.result
    (sym c.is_audio.ensures ∙ c.if-is_audio.false) c.step-value.ensures.value))
