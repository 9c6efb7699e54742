use Rattle.std.proofs.Common.{◌-◌, ◌∙◌, ap, count_by, drop, take}
use Rattle.cs_base.specs.Lines.{is_feed}
use Rattle.cs_base.proofs.Texts.{line_number}
use Rattle.cs_score.proofs.line.line_on.Goals as goal

pub returns : goal.returns
returns c =
    let text = c.args.text.now in
    line_number text.first_line text.bytes c.args.from c.args.to c.args.line c.feeds.result c.requires.from
    c.requires.line
    (c.feeds.ensures ∙ ap (λ t. count_by is_feed (take (c.args.to - c.args.from) (drop c.args.from t))) c.bytes.ensures)
