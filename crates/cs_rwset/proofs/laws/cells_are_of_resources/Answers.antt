use Rattle.cs_rwset.proofs.Holding.{covers_holding, holding_covers}
use Rattle.cs_rwset.proofs.laws.cells_are_of_resources.Goals as goal

pub returns : goal.returns
returns c areas rs address = (covers_holding areas rs address, λ h. holding_covers areas rs h.0 address h.1 h.2 h.3)
