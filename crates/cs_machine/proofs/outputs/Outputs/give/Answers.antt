use Rattle.std.proofs.Common.{◌≡◌, ◌∙◌, [], ◌<◌, ap, length, slice_index_or, slice_set, subst, sym}
use Rattle.std.proofs.lemmas.List.{get_or_read}
use Rattle.cs_ir.specs.Waves.{both}
use Rattle.cs_machine.specs.{Outputs.ChannelFile, Outputs.IsGiven, Rows.HasFrames, Rows.row_wave}
use Rattle.cs_machine.proofs.Channels.{gave}
use Rattle.cs_words.specs.declared.sign.BinOp.TheVariants as op
use Rattle.cs_machine.proofs.outputs.Outputs.give.Goals as goal

pub returns : goal.returns
returns c =
    let old : ChannelFile = record { rows = c.self.inside.channels.items; ksmps = c.self.inside.ksmps } in
    let low : c.args.channel < length c.self.inside.channels.items =
    subst (λ f. c.args.channel < length f.rows) (sym c.self.view_is) c.requires.channel in
    let is : c.index_mut.result.now ≡ slice_index_or c.self.inside.channels.items c.args.channel [] =
    get_or_read c.self.inside.channels.items c.args.channel c.index_mut.result.now low c.index_mut.ensures.value [] in
    subst (λ f. IsGiven f c.args.channel (row_wave c.args.row.now)
    (record old { rows = slice_set old.rows c.args.channel c.give.new.self })) c.self.view_is
    (gave old c.args.channel c.args.row.now c.give.new.self c.self.invariant low
    (c.requires.row ∙ sym (ap (λ f. f.ksmps) c.self.view_is))
    (subst (λ row. HasFrames (both op.Add (row_wave row) (row_wave c.args.row.now)) c.give.new.self) is
    c.give.ensures.frames) (c.give.ensures.long ∙ ap length is))
