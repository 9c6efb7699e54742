use Rattle.cs_perform.proofs.Wholes.{performs_nothing}
use Rattle.cs_perform.proofs.by_crew.play_by_pool.Goals as goal

pub returns-in_default-clause-performed : goal.returns-in_default-clause-performed
returns-in_default-clause-performed g c = record {
  performed = performs_nothing _ _ _;
  outcome = tt;
  turns = tt;
}
