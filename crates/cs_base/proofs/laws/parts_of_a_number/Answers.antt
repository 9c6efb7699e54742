use Rattle.std.proofs.Common.{refl}
use Rattle.cs_base.specs.Numbers.{one, floor_div}
use Rattle.cs_base.proofs.laws.parts_of_a_number.Goals as goal

pub returns-clause-whole : goal.returns-clause-whole
returns-clause-whole c = λ x. (floor_div x one, refl)
