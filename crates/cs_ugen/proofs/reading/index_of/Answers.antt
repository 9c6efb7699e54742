use Rattle.std.proofs.Common.{arith}
use Rattle.std.proofs.lemmas.Int.{clamps, ints}
use Rattle.cs_ugen.proofs.reading.index_of.Goals as goal

pub overflow_mul-from : goal.overflow_mul-from
overflow_mul-from c = omega (arith, ints)

pub overflow_sub-from : goal.overflow_sub-from
overflow_sub-from c = omega (arith, ints)

pub overflow_cast-result : goal.overflow_cast-result
overflow_cast-result c = omega (arith, ints, clamps)

pub returns : goal.returns
returns c = record { value = omega (arith, ints, clamps); inside = omega (arith, ints, clamps) }
