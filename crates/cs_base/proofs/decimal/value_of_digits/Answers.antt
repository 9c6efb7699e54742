use Rattle.std.proofs.Common.{arith}
use Rattle.cs_base.proofs.Digits.{one_digit_more}
use Rattle.cs_base.proofs.decimal.value_of_digits.Goals as goal

pub loop-digit-preserved : goal.loop-digit-preserved
loop-digit-preserved c =
    let more = one_digit_more c.args.digits.now c.loop-digit.digit-index c.loop-digit.value c.requires
    c.loop-digit-test.true c.loop-digit.invariant in
    omega (arith, more)
