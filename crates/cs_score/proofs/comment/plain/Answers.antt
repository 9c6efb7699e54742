use Rattle.std.proofs.Common.{ap, ◌∙◌}
use Rattle.std.proofs.lemmas.List.{take_rest}
use Rattle.cs_score.specs.inner.Hidden.{hidden_here}
use Rattle.cs_score.proofs.Comments.{byte_read, bytes_read}
use Rattle.cs_score.proofs.comment.plain.Goals as goal

pub loop-at-preserved : goal.loop-at-preserved
loop-at-preserved c =
    byte_read c.args.text.now c.loop-at.plain.items _ _ c.loop-at.at c.loop-at.hidden c.hidden_here-here.result _
    c.shown.result c.loop-at-test.true
    (c.hidden_here-here.ensures ∙ ap (hidden_here c.loop-at.hidden) (take_rest c.args.text.now c.loop-at.at))
    c.shown.ensures c.in_ok-push.ensures.items c.saturating_sub-hidden.ensures c.loop-at.invariant

pub returns : goal.returns
returns c = bytes_read c.args.text.now c.loop-at.plain.items _ c.loop-at.at c.loop-at.hidden c.loop-at-test.false
    c.loop-at.invariant
