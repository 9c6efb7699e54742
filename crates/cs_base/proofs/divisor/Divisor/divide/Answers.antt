use Rattle.std.proofs.Common.{◌≤◌, ◌+◌, ◌^◌, ◌∙◌, ◌*ℤ◌, FitsSigned, pos, unsigned_abs, w64, rules, subst, sym}
use Rattle.std.proofs.lemmas.Int.{to_z-of_z}
use Rattle.cs_base.specs.Numbers.{floor_div}
use Rattle.cs_base.proofs.Inverses.{guess_small}
use Rattle.cs_base.proofs.divisor.Divisor.divide.Goals as goal

pub is_quotient-requires-clause-guess : goal.is_quotient-requires-clause-guess
is_quotient-requires-clause-guess c =
    let inverse : FitsSigned w64 c.args.self.inverse = search rules in
    let value : FitsSigned w64 c.args.self.value = search rules in
    let guess : FitsSigned w64 c.upper-guess.result = search rules in
    subst (λ z. unsigned_abs z ≤ 2 ^ 61 + 2 ^ 49)
    (sym (λ i. to_z-of_z w64 c.upper-guess.result guess i *ℤ to_z-of_z w64 c.args.self.value value i))
    (guess_small c.args.n c.args.self.inverse c.args.self.value c.upper-guess.result c.requires c.args.self.high
    c.args.self.near (c.upper-guess.ensures
    ∙ (λ i. floor_div (to_z-of_z w64 c.args.n c.ranges.n i *ℤ to_z-of_z w64 c.args.self.inverse inverse i)
    (pos 18446744073709551616))))
