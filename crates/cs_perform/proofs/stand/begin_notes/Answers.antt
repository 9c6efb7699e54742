use Rattle.cs_perform.proofs.Standings.{allows_all}
use Rattle.cs_perform.proofs.stand.begin_notes.Goals as goal

pub begin_cycle-requires-clause-access : goal.begin_cycle-requires-clause-access
begin_cycle-requires-clause-access g c = allows_all _ _ c.requires.words
