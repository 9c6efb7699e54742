use Rattle.cs_perform.proofs.Tallies.{counts_both}
use Rattle.cs_perform.proofs.laws.tallies_count_cycles_and_notes.Goals as goal

pub returns : goal.returns
returns c = counts_both
