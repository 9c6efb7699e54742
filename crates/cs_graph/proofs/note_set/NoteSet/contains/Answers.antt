use Rattle.cs_graph.proofs.SetLemmas.{has_bit}
use Rattle.cs_graph.proofs.note_set.NoteSet.contains.Goals as goal

pub returns : goal.returns
returns c = rw (← c.self.view_is) (has_bit c.self.inside.words c.args.note)
