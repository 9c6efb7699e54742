use Rattle.std.proofs.Common.{arith}
use Rattle.std.proofs.lemmas.Int.{ints}
use Rattle.cs_machine.proofs.quotient.divisor_of.Goals as goal

pub of-requires-clause-low : goal.of-requires-clause-low
of-requires-clause-low c = omega (arith, ints)

pub of-requires-clause-high : goal.of-requires-clause-high
of-requires-clause-high c = omega (arith, ints)

pub reach_of-requires-clause-low : goal.reach_of-requires-clause-low
reach_of-requires-clause-low c = omega (arith, ints)

pub reach_of-requires-clause-high : goal.reach_of-requires-clause-high
reach_of-requires-clause-high c = omega (arith, ints)
