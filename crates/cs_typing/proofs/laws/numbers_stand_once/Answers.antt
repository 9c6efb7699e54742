use Rattle.cs_typing.proofs.NumbersOnce.{once}
use Rattle.cs_typing.proofs.laws.numbers_stand_once.Goals as goal

pub returns : goal.returns
returns c = once
