use Rattle.std.proofs.lemmas.{Grind.common_steps, Int.ints}
use Rattle.std.proofs.Common.{to_z, of_z, w64, not, arith}
use Rattle.cs_wav.proofs.Scales.{is_within, below}
use Rattle.cs_wav.proofs.sample.Scale.holds.Goals as goal

pub returns-then-self-value-clause-in_range : goal.returns-then-self-value-clause-in_range
returns-then-self-value-clause-in_range c = grind (arith, common_steps, ints, is_within, of_z, to_z, w64)

pub returns-else-self-value-clause-in_range : goal.returns-else-self-value-clause-in_range
returns-else-self-value-clause-in_range c = grind (arith, common_steps, below, ints, not)
