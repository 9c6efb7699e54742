use Rattle.std.proofs.Common.{ap, ◌∙◌}
use Rattle.std.proofs.lemmas.List.{take_rest}
use Rattle.cs_base.specs.Comments.{close_of}
use Rattle.cs_base.proofs.Closings.{closed, unclosed}
use Rattle.cs_base.proofs.comments.block_len.Goals as goal

pub returns-then-close-text-clause-value : goal.returns-then-close-text-clause-value
returns-then-close-text-clause-value c =
    let text = c.args.text.now in
    (closed text c.close_of-close.result c.requires (c.close_of-close.ensures.value ∙ ap close_of (take_rest text 2))
    c.if-close-text.true).0

pub returns-then-close-text-clause-within : goal.returns-then-close-text-clause-within
returns-then-close-text-clause-within c =
    let text = c.args.text.now in
    (closed text c.close_of-close.result c.requires (c.close_of-close.ensures.value ∙ ap close_of (take_rest text 2))
    c.if-close-text.true).1

pub returns-else-close-text-clause-value : goal.returns-else-close-text-clause-value
returns-else-close-text-clause-value c =
    let text = c.args.text.now in
    unclosed text c.close_of-close.result c.requires (c.close_of-close.ensures.value ∙ ap close_of (take_rest text 2))
    c.if-close-text.false
