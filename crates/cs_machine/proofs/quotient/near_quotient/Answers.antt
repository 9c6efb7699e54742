use Rattle.std.proofs.Common.{◌*ℤ◌, ◌∙◌, FitsSigned, ap, rules, subst, sym, w64}
use Rattle.std.proofs.lemmas.Int.{to_z-of_z}
use Rattle.cs_base.specs.Numbers.{IsRaw, clamp, floor_div, one}
use Rattle.cs_machine.proofs.Quotients.{quotient_in_range, quotient_is}
use Rattle.cs_machine.proofs.quotient.near_quotient.Goals as goal

pub unchanged-requires : goal.unchanged-requires
unchanged-requires c =
    let raw : FitsSigned w64 c.raw.result = search rules in
    let number : FitsSigned w64 c.dividend.result = search rules in
    let quotient : FitsSigned w64 c.divide.result = search rules in
    let x = to_z-of_z w64 c.raw.result raw ∙ c.raw.ensures.value in
    let n = to_z-of_z w64 c.dividend.result number ∙ c.dividend.ensures.value ∙ ap (λ z. z *ℤ one) x in
    subst IsRaw (sym (to_z-of_z w64 c.divide.result quotient ∙ c.divide.ensures
    ∙ ap (λ z. floor_div z c.args.by.divisor.value) n))
    (quotient_in_range c.args.x c.args.by.reach c.args.by.divisor.value c.args.by.divisor.low c.requires
    c.args.by.within)

pub returns : goal.returns
returns c =
    let raw : FitsSigned w64 c.raw.result = search rules in
    let number : FitsSigned w64 c.dividend.result = search rules in
    let quotient : FitsSigned w64 c.divide.result = search rules in
    let x = to_z-of_z w64 c.raw.result raw ∙ c.raw.ensures.value in
    let n = to_z-of_z w64 c.dividend.result number ∙ c.dividend.ensures.value ∙ ap (λ z. z *ℤ one) x in
    c.unchanged.ensures ∙ ap clamp (to_z-of_z w64 c.divide.result quotient ∙ c.divide.ensures
    ∙ ap (λ z. floor_div z c.args.by.divisor.value) n)
    ∙ sym (quotient_is c.args.x c.args.by.divisor.value c.args.by.divisor.low)
