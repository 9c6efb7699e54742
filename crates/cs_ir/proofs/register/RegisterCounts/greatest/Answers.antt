use Rattle.std.proofs.Common.{arith, rules}
use Rattle.cs_ir.specs.declared.register.Kind.TheVariants as kind
use Rattle.cs_ir.proofs.register.RegisterCounts.greatest.Goals as goal

pub returns : goal.returns
returns c kind.LocalInit = search (rules, arith)
returns c a = search (rules, arith)
