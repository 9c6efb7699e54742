use Rattle.std.proofs.Common.{◌-◌, drop, take, length, ap, ◌∙◌}
use Rattle.std.specs.{List.prefix_len, Option.option_to_list}
use Rattle.std.proofs.lemmas.List.{take_rest}
use Rattle.cs_base.specs.Lines.{is_blank, next_len}
use Rattle.cs_score.specs.Rows.{row_at}
use Rattle.cs_base.proofs.LineCuts.{line_len}
use Rattle.cs_score.proofs.Lines.{row_read}
use Rattle.cs_score.proofs.line.read_line.Goals as goal

pub returns-clause-row : goal.returns-clause-row
returns-clause-row c =
    let plain = c.args.plain.now in
    let at = c.args.at in
    let n = c.line_len.result in
    let indent = c.blanks_len-indent.result in
    let rest = take_rest plain at in
    let line = c.line_on-row_line.result in
    row_read c.args.text.now plain at n indent c.next_len.result line (option_to_list c.in_ok-row.row) c.requires.at
    (c.line_len.ensures.value ∙ ap line_len rest)
    (c.blanks_len-indent.ensures.value ∙ ap (λ t. prefix_len is_blank (take n t)) rest)
    (c.next_len.ensures ∙ ap next_len rest) c.line_on-row_line.ensures
    (c.in_ok-row.ensures ∙ ap (row_at line) (take_rest (take n (take (length plain - at) (drop at plain))) indent)
    ∙ ap (λ t. row_at line (drop indent (take n t))) rest)
