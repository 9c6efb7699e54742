use Rattle.std.proofs.Common.{◌∙◌, ◌++◌, List, ℤ, ap, drop, length, subst, sym, take}
use Rattle.cs_ir.specs.Waves.{Wave, both}
use Rattle.cs_machine.proofs.Frames.{vector_frames}
use Rattle.cs_machine.specs.{Rows.HasFrames, Rows.row_wave, inner.Kept.shown}
use Rattle.cs_words.specs.declared.sign.BinOp.TheVariants as op
use Rattle.cs_machine.proofs.outputs.OutputChannel.give.Goals as goal

pub add_row-requires : goal.add_row-requires
add_row-requires c =
    let items = c.self.inside.row.items in
    let is = c.deref_mut.ensures.value ∙ sym (ap (λ b. shown b items) c.if-self.true) ∙ c.self.view_is in
    c.requires ∙ sym (ap length is)

pub returns-then-self-clause-frames : goal.returns-then-self-clause-frames
returns-then-self-clause-frames c =
    let row : List ℤ = c.args.row.now in
    let w : Wave = both op.Add (row_wave c.args.self.now) (row_wave row) in
    let items : List ℤ = c.self.inside.row.items in
    let new : List ℤ = c.add_row.new.channel in
    let is = c.deref_mut.ensures.value ∙ sym (ap (λ b. shown b items) c.if-self.true) ∙ c.self.view_is in
    subst (λ b. HasFrames w (shown b (take c.self.inside.row.len (new ++ drop (length new) items))))
    (sym c.if-self.true)
    (vector_frames w c.self.inside.row.len new items (c.add_row.ensures.long ∙ c.deref_mut.ensures.len)
    (λ j low. c.add_row.ensures.frames j low ∙ (λ i. both op.Add (row_wave (is i)) (row_wave row) j)))
