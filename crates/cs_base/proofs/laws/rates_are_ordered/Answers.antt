use Rattle.cs_base.proofs.Rates.{within_once, within_chain, within_either, faster_is_one, within_faster}
use Rattle.cs_base.proofs.laws.rates_are_ordered.Goals as goal

pub returns-clause-once : goal.returns-clause-once
returns-clause-once c = within_once

pub returns-clause-chain : goal.returns-clause-chain
returns-clause-chain c = within_chain

pub returns-clause-either : goal.returns-clause-either
returns-clause-either c = within_either

pub returns-clause-one_of_two : goal.returns-clause-one_of_two
returns-clause-one_of_two c = faster_is_one

pub returns-clause-above_two : goal.returns-clause-above_two
returns-clause-above_two c = within_faster
