use Rattle.std.proofs.Common.{◌*◌, ◌∙◌, arith}
use Rattle.cs_ugen.proofs.Angles.{fraction_of}
use Rattle.cs_ugen.proofs.angle.Angle.fraction.Goals as goal

pub returns-clause-value : goal.returns-clause-value
returns-clause-value c = c.lower.ensures ∙ fraction_of c.times.result (c.args.self * c.args.len) c.times.ensures.value

pub returns-clause-small : goal.returns-clause-small
returns-clause-small c = let is = c.lower.ensures in omega (arith, is)
