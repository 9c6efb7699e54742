use Rattle.cs_name_laws.proofs.Named.{orchestra_named}
use Rattle.cs_name_laws.proofs.laws.typed_trees_name_what_there_is.Goals as goal

pub returns : goal.returns
returns c = orchestra_named
