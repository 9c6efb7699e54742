use Rattle.std.proofs.Common.{◌∙◌, ◌-ℤ◌, ◌*ℤ◌, FitsSigned, of_z, to_z, w64, ap, subst, sym}
use Rattle.std.proofs.lemmas.Int.{to_z-of_z}
use Rattle.cs_base.proofs.Inverses.{rest_fits, rest_is}
use Rattle.cs_base.proofs.divisor.rest_of.Goals as goal

pub overflow_sub-result : goal.overflow_sub-result
overflow_sub-result c = subst (FitsSigned w64)
    (sym (rest_is c.args.n c.args.guess c.args.divisor c.requires.n c.requires.guess c.ranges.n c.ranges.guess
    c.ranges.divisor)) (rest_fits c.args.n c.args.guess c.args.divisor c.requires.n c.requires.guess)

pub returns : goal.returns
returns c =
    ap (λ z. to_z w64 (of_z w64 z))
    (rest_is c.args.n c.args.guess c.args.divisor c.requires.n c.requires.guess c.ranges.n c.ranges.guess
    c.ranges.divisor) ∙ to_z-of_z w64 (c.args.n -ℤ (c.args.guess *ℤ c.args.divisor))
    (rest_fits c.args.n c.args.guess c.args.divisor c.requires.n c.requires.guess)
