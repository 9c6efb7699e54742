use Rattle.std.proofs.Common.{arith}
use Rattle.std.proofs.lemmas.Int.{ints}
use Rattle.cs_machine.proofs.quotient.reach_of.Goals as goal

pub overflow_mul-value : goal.overflow_mul-value
overflow_mul-value c = omega (arith, ints)

pub overflow_sub-value : goal.overflow_sub-value
overflow_sub-value c = omega (arith, ints)

pub returns-else-value-lt-ONE-clause-low : goal.returns-else-value-lt-ONE-clause-low
returns-else-value-lt-ONE-clause-low c = omega (arith, ints)

pub returns-else-value-lt-ONE-clause-high : goal.returns-else-value-lt-ONE-clause-high
returns-else-value-lt-ONE-clause-high c = omega (arith, ints)

pub returns-else-value-lt-ONE-clause-within : goal.returns-else-value-lt-ONE-clause-within
returns-else-value-lt-ONE-clause-within c = omega (arith, ints)
