use Rattle.std.proofs.Common.{◌≡◌, drop}
use Rattle.cs_tempo.specs.Sections.{or_else, tempo_of}
use Rattle.cs_tempo.proofs.section.tempo_of.Given as goal

abbrev pub invariant-loop-statement : goal.invariant-loop-statement
invariant-loop-statement l = or_else (tempo_of (drop l.statement-index l.section)) l.tempo ≡ tempo_of l.section
