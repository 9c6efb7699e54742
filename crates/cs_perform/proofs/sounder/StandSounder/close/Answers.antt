use Rattle.std.proofs.Common.{◌∙◌}
use Rattle.cs_perform.proofs.sounder.StandSounder.close.Goals as goal

pub returns-in-Ok : goal.returns-in-Ok
returns-in-Ok g c = record {
  starts = λ s m at.
      let after = c.in-Ok.ensures.begun s m at in
      (c.started.ensures ∙ after.stands.started, c.not_started.ensures ∙ after.stands.not_started);
}
