-- An angle's word, which is a multiple of 2^40.
use Rattle.std.proofs.Common.{◌≡◌, ℕ, zero, suc, ◌*◌, ◌/◌, ◌%◌, ◌<◌, ◌≤◌, ap, sym, ◌∙◌, arith}
use Rattle.std.proofs.lemmas.Nat.{mul-le}

times_part : (parts len : ℕ) → parts * 1099511627776 * len ≡ parts * len * 1099511627776
times_part parts zero = omega arith
times_part parts (suc len) = let e = times_part parts len in omega (arith, e)

-- a product with the word is 2^40 times the product with the angle
pub times_word : (w len : ℕ) → w / 1099511627776 * 1099511627776 ≡ w → w * len ≡ w / 1099511627776 * len * 1099511627776
times_word w len h = ap (λ v. v * len) (sym h) ∙ times_part (w / 1099511627776) len

-- the place of an angle in a curve, and its distance from this place
pub place_of : (n q : ℕ) → n ≡ q * 1099511627776 → n / 18446744073709551616 ≡ q / 16777216
place_of n q e = omega (arith, e)

pub fraction_of : (n q : ℕ) → n ≡ q * 1099511627776 → n % 18446744073709551616 / 281474976710656 ≡ q % 16777216 / 256
fraction_of n q e = omega (arith, e)

-- an angle below one turn times a number is below that number of turns
pub product_below : (parts len : ℕ) → parts < 16777216 → parts * len ≤ 16777215 * len
product_below parts len h = mul-le parts len 16777215 len (omega arith) (omega arith)

pub place_inside : (parts len : ℕ) → parts < 16777216 → 1 ≤ len → parts * len / 16777216 < len
place_inside parts len h some = let p = product_below parts len h in omega (arith, p)
