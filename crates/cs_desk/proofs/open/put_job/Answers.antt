use Rattle.cs_board.specs.declared.view.Berth.TheVariants.{Vacant}
use Rattle.cs_desk.proofs.open.put_job.Goals as goal

pub swap-held-requires-clause-lies : goal.swap-held-requires-clause-lies
swap-held-requires-clause-lies g c = (Vacant, c.requires.vacant)
