use Rattle.cs_ir.specs.Resources.{act_uses, act_writes}
use Rattle.cs_rwset.specs.Footprints.{stock_of}
use Rattle.cs_rwset.proofs.Holding.{places_of_each, each_placed}
use Rattle.cs_rwset.proofs.laws.footprints_are_of_ops.Goals as goal

pub returns-clause-used : goal.returns-clause-used
returns-clause-used c areas ops place = (
  places_of_each areas (λ o. act_uses (stock_of areas) o.act) ops place,
  each_placed areas (λ o. act_uses (stock_of areas) o.act) ops place,
)

pub returns-clause-written : goal.returns-clause-written
returns-clause-written c areas ops place = (
  places_of_each areas (λ o. act_writes (stock_of areas) o.act) ops place,
  each_placed areas (λ o. act_writes (stock_of areas) o.act) ops place,
)
