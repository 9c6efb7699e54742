use Rattle.cs_piece.proofs.Played.{plays_from, performed_from}
use Rattle.cs_piece.proofs.laws.instruments_are_performed.Goals as goal

pub returns-clause-playable : goal.returns-clause-playable
returns-clause-playable c = plays_from

pub returns-clause-performed : goal.returns-clause-performed
returns-clause-performed c = performed_from
