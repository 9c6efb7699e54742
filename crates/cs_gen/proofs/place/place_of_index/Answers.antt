use Rattle.std.proofs.Common.{arith}
use Rattle.std.proofs.lemmas.Int.{clamps, ints}
use Rattle.cs_gen.proofs.place.place_of_index.Goals as goal

pub overflow_cast-result : goal.overflow_cast-result
overflow_cast-result c = omega (arith, ints, clamps)

pub returns : goal.returns
returns c = record { value = omega (arith, ints, clamps); inside = omega (arith, ints, clamps) }
