use Rattle.std.proofs.lemmas.Grind.{common_steps}
use Rattle.std.proofs.Common.{arith}
use Rattle.cs_graph.proofs.SetLemmas.{has-join}
use Rattle.cs_graph.proofs.note_set.NoteSet.join.Goals as goal

pub returns : goal.returns
returns c = grind (arith, common_steps, has-join)
