use Rattle.std.proofs.Common.{sym}
use Rattle.cs_command.proofs.command.with_letters.Goals as goal

pub letter_option-requires : goal.letter_option-requires
letter_option-requires c = sym c.from_one_to.ensures

pub returns : goal.returns
returns c =
    let j = c.with-command.ensures _ _ c.letter_option.ensures.rule c.bare.ensures in
    let o = c.with-command-2.ensures _ _ c.letter_option-2.ensures.rule j in
    let w = c.with-command-3.ensures _ _ c.letter_flag.ensures.rule o in
    let s = c.with-command-4.ensures _ _ c.letter_flag-2.ensures.rule w in
    let d = c.with-command-5.ensures _ _ c.letter_flag-3.ensures.rule s in
    c.with.ensures _ _ c.letter_flag-5.ensures.rule (c.with-command-6.ensures _ _ c.letter_flag-4.ensures.rule d)
