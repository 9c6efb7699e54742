use Rattle.std.proofs.lemmas.Bool.{eqb-true}
use Rattle.cs_graph.proofs.SetLemmas.{has_clear}
use Rattle.cs_graph.proofs.note_set.NoteSet.is_clear.Goals as goal

pub returns : goal.returns
returns c = λ is i at_. rw (← c.self.view_is) (has_clear c.self.inside.words c.args.block i (eqb-true _ 0 is) at_)
