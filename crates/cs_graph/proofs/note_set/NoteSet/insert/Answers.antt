use Rattle.cs_graph.proofs.SetLemmas.{has-insert}
use Rattle.cs_graph.proofs.note_set.NoteSet.insert.Goals as goal

pub returns : goal.returns
returns c = λ i. rw (← c.self.view_is) (has-insert c.self.inside.words c.args.note i c.self.invariant c.requires)
