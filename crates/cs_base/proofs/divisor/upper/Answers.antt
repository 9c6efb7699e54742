use Rattle.std.proofs.Common.{◌*◌, ◌^◌, ◌≤◌, unsigned_abs, of_z, to_z, w64, arith}
use Rattle.std.proofs.lemmas.{Int.ints, Int.unsigned_abs-mul, Nat.mul-le}
use Rattle.cs_base.proofs.divisor.upper.Goals as goal

pub whole-requires : goal.whole-requires
whole-requires c =
    let x = to_z w64 (of_z w64 c.args.n) in
    let y = to_z w64 (of_z w64 c.args.inverse) in
    let most : unsigned_abs x * unsigned_abs y ≤ 2 ^ 61 * 2 ^ 63 =
    mul-le (unsigned_abs x) (unsigned_abs y) (2 ^ 61) (2 ^ 63) (omega (arith, ints)) (omega (arith, ints)) in
    omega (arith, ints, c.times.ensures, most, unsigned_abs-mul x y)
