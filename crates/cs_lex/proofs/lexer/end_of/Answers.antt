use Rattle.std.proofs.Common.{arith, ◌-◌, ◌∙◌, ap, count_by}
use Rattle.std.proofs.lemmas.{Grind.common_steps, List.take_rest}
use Rattle.cs_base.specs.Lines.{is_feed}
use Rattle.cs_lex.proofs.Reading.{last_line, made}
use Rattle.cs_lex.specs.declared.token.Mark.TheVariants as mark
use Rattle.cs_lex.proofs.lexer.end_of.Goals as goal

pub overflow_sub-result : goal.overflow_sub-result
overflow_sub-result c =
    let source = c.args.source.now in
    let k = c.saturating_sub.result in
    (last_line k source c.args.line c.feeds.result c.requires.line
    (c.feeds.ensures ∙ ap (count_by is_feed) (take_rest source k))).0

pub returns : goal.returns
returns c = grind (arith, common_steps, count_by, last_line, made, take_rest)
