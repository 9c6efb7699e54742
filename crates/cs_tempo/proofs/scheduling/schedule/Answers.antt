use Rattle.std.proofs.Common.{rules}
use Rattle.cs_tempo.proofs.Performable.{performable_if}
use Rattle.cs_tempo.proofs.scheduling.schedule.Goals as goal

pub returns-clause-plot : goal.returns-clause-plot
returns-clause-plot c = search rules

pub returns-clause-within : goal.returns-clause-within
returns-clause-within c = search rules

pub returns-clause-performable : goal.returns-clause-performable
returns-clause-performable c =
    performable_if c.args.head.now c.args.score.now _ c.requires.range (returns-clause-plot c) (returns-clause-within c)
