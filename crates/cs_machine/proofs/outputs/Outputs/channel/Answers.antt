use Rattle.std.proofs.Common.{◌≡◌, [], ◌<◌, ◌∙◌, ap, length, rules, slice_index_or, sym}
use Rattle.std.proofs.lemmas.List.{get_or_read}
use Rattle.cs_machine.specs.Rows.{row_wave}
use Rattle.cs_machine.proofs.Channels.{if_none, zeros_at}
use Rattle.cs_machine.proofs.outputs.Outputs.channel.Goals as goal

pub returns-then-channel-len-clause-none : goal.returns-then-channel-len-clause-none
returns-then-channel-len-clause-none c =
    let low : c.args.channel < length c.self.inside.channels.items = search rules in
    let is : c.index.result.now ≡ slice_index_or c.self.inside.channels.items c.args.channel [] =
    get_or_read c.self.inside.channels.items c.args.channel c.index.result.now low c.index.ensures [] in
    if_none c.row.result (λ zeros. sym (ap (λ f. row_wave (slice_index_or f.rows c.args.channel [])) c.self.view_is)
    ∙ zeros_at c.self.inside.channels.items c.args.channel (length c.index.result.now) (sym is ∙ zeros))
    c.row.ensures.none
