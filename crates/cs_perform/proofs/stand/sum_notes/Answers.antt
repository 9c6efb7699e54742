use Rattle.std.proofs.Common.{◌≡◌, ◌∙◌, length, arith}
use Rattle.std.proofs.lemmas.Bool.Decides.{nat_tests}
use Rattle.cs_perform.proofs.Rows.{silent}
use Rattle.cs_perform.proofs.stand.sum_notes.Goals as goal

pub returns-then-is_empty : goal.returns-then-is_empty
returns-then-is_empty c =
    let none : length c.args.voices.now ≡ 0 = grind (arith, nat_tests) in
    c.fill.ensures.after (λ y e. e) ∙ silent c.args.voices.now (length c.args.block.now) none
