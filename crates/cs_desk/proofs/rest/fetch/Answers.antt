use Rattle.cs_board.specs.declared.view.Berth.TheVariants.{Full}
use Rattle.cs_desk.proofs.rest.fetch.Goals as goal

pub swap-held-requires-clause-lies : goal.swap-held-requires-clause-lies
swap-held-requires-clause-lies g c = (Full c.requires.full.0, c.requires.full.1)
