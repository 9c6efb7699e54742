use Rattle.std.proofs.Common.{◌+◌, drop, ap, sym, ◌∙◌}
use Rattle.cs_tempo.specs.Sections.{or_else, tempo_of}
use Rattle.cs_tempo.proofs.Parts.{tempo_more, tempo_none, or_nothing}
use Rattle.cs_tempo.proofs.section.tempo_of.Goals as goal

pub loop-statement-init : goal.loop-statement-init
loop-statement-init c = or_nothing (tempo_of c.args.section.now)

pub loop-statement-preserved : goal.loop-statement-preserved
loop-statement-preserved c =
    ap (or_else (tempo_of (drop (c.loop-statement.statement-index + 1) c.args.section.now))) c.points_or-tempo.ensures
    ∙ sym (tempo_more c.args.section.now c.loop-statement.statement-index c.statement-item.result
    c.loop-statement.tempo.now c.loop-statement-test.true c.statement-item.is) ∙ c.loop-statement.invariant

pub returns : goal.returns
returns c = sym (tempo_none c.args.section.now c.loop-statement.statement-index c.loop-statement.tempo.now
    c.loop-statement-test.false) ∙ c.loop-statement.invariant
