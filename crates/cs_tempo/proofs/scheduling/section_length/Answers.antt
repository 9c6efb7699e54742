use Rattle.std.proofs.Common.{sym, subst}
use Rattle.cs_time.specs.Time.{IsTempo}
use Rattle.cs_tempo.proofs.Climbs.{tempo_in_range}
use Rattle.cs_tempo.proofs.scheduling.section_length.Goals as goal

pub new-requires : goal.new-requires
new-requires c = subst IsTempo (sym c.tempo_of.ensures) (tempo_in_range c.args.section.now c.requires)
