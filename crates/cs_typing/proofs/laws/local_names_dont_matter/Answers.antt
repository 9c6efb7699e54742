use Rattle.cs_typing.proofs.Renaming.{statement_kept, block_kept, known_renamed, known_block_renamed, fault_kept}
use Rattle.cs_typing.proofs.Renaming.{block_fault_kept}
use Rattle.cs_typing.proofs.laws.local_names_dont_matter.Goals as goal

pub returns-clause-typed : goal.returns-clause-typed
returns-clause-typed c = statement_kept

pub returns-clause-typed_block : goal.returns-clause-typed_block
returns-clause-typed_block c = block_kept

pub returns-clause-known : goal.returns-clause-known
returns-clause-known c = known_renamed

pub returns-clause-known_block : goal.returns-clause-known_block
returns-clause-known_block c = known_block_renamed

pub returns-clause-fault : goal.returns-clause-fault
returns-clause-fault c = fault_kept

pub returns-clause-block_fault : goal.returns-clause-block_fault
returns-clause-block_fault c = block_fault_kept
