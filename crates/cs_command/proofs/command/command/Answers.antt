use Rattle.cs_command.proofs.command.command.Goals as goal

pub returns : goal.returns
returns c =
    let turns = c.with-command.ensures _ _ c.long_flag.ensures.rule c.with_letters-command.ensures in
    let pool = c.with-command-2.ensures _ _ c.long_flag-2.ensures.rule turns in
    let demo = c.with-command-3.ensures _ _ c.demo_option.ensures.rule pool in
    c.with.ensures _ _ c.name-2.ensures.rule (c.with-command-4.ensures _ _ c.name.ensures.rule demo)
