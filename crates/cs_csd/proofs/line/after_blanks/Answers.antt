use Rattle.std.proofs.Common.{drop, ap, ◌∙◌}
use Rattle.std.proofs.lemmas.List.{take_rest}
use Rattle.cs_csd.proofs.line.after_blanks.Goals as goal

pub returns : goal.returns
returns c = take_rest c.args.bytes.now c.blanks_len.result
    ∙ ap (λ n. drop n c.args.bytes.now) c.blanks_len.ensures.value
