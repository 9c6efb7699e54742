use Rattle.std.proofs.Common.{◌∙◌}
use Rattle.clap.specs.Words.{app_of}
use Rattle.cs_command.proofs.Takes.{refused, taken}
use Rattle.cs_command.proofs.reading.matched.Goals as goal

pub returns-in-Ok : goal.returns-in-Ok
returns-in-Ok c = taken c.args.words.now (app_of c.in_ok-command.field-0) c.try_get_matches_from.result c.in-Ok.matches
    c.in_ok-command.ensures
    c.try_get_matches_from.ensures.kinds c.try_get_matches_from.ensures.matches c.in-Ok.is

pub returns : goal.returns
returns c = refused c.args.words.now (app_of c.in_ok-command.field-0) c.try_get_matches_from.result c.in-Err.error
    c.in_ok-command.ensures
    c.try_get_matches_from.ensures.kinds c.in-Err.is (λ e. c.in_default.not-OutOfMemory (c.kind.ensures ∙ e))
