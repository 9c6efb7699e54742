use Rattle.std.proofs.Common.{rules}
use Rattle.cs_base.proofs.Digits.{billionths_fit, billionths_are}
use Rattle.cs_base.proofs.decimal.billionths_of_digits.Goals as goal

pub overflow_mul-result : goal.overflow_mul-result
overflow_mul-result c =
    let fit = billionths_fit c.args.digits.now _ _ _ c.requires c.min-count.ensures c.value_of_digits.ensures
    c.pow.ensures in
    search (rules, fit)

pub returns : goal.returns
returns c = billionths_are c.args.digits.now _ _ _ c.requires c.min-count.ensures c.value_of_digits.ensures
    c.pow.ensures
