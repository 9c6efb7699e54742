use Rattle.cs_perform.proofs.stand.Stand.is_shared.Goals as goal

pub returns-in-Ok-clause-at : goal.returns-in-Ok-clause-at
returns-in-Ok-clause-at g c s m at = c.in-Ok.ensures.at s m at

pub returns-in-Ok-clause-ready : goal.returns-in-Ok-clause-ready
returns-in-Ok-clause-ready g c e = c.in-Ok.ensures.ready

pub returns-in-Err-clause-at : goal.returns-in-Err-clause-at
returns-in-Err-clause-at g c s m at = c.in-Err.ensures.at s m at
