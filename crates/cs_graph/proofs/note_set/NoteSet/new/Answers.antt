use Rattle.cs_graph.proofs.SetLemmas.{has_none}
use Rattle.cs_graph.proofs.note_set.NoteSet.new.Goals as goal

pub returns : goal.returns
returns c = has_none
