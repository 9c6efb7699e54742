-- Quotients rounded down, for a positive divisor.
use Rattle.std.proofs.Common.{◌≡◌, ℕ, suc, ◌+◌, ◌-◌, ◌*◌, ◌/◌, ◌<◌, ◌≤◌, ℤ, pos, negsuc, ◌+ℤ◌, ◌-ℤ◌, ◌*ℤ◌, ◌≤ℤ◌, ◌<ℤ◌}
use Rattle.std.proofs.Common.{ap, sym, ◌∙◌, arith}
use Rattle.std.proofs.lemmas.{Int.ints, Nat.div-mul-add, Nat.div_below, Nat.le-div}
use Rattle.cs_base.specs.Numbers.{floor_div}

-- if a number is q times the divisor plus a remainder less than the divisor, the quotient is q
pub quotient_of_parts : (n q : ℤ) (d r : ℕ) → n ≡ (q *ℤ pos d) +ℤ pos r → r < d → floor_div n (pos d) ≡ q
quotient_of_parts n (pos e) d r sum below =
    let e1 : n ≡ pos (e * d + r) = omega (arith, ints) in
    ap (λ z. floor_div z (pos d)) e1 ∙ ap pos (div-mul-add e d r below)
quotient_of_parts n (negsuc e) d r sum below =
    let e1 : n ≡ negsuc (e * d + (d - 1 - r)) = omega (arith, ints) in
    ap (λ z. floor_div z (pos d)) e1 ∙ ap negsuc (div-mul-add e d (d - 1 - r) (omega arith))

-- q is the quotient if its remainder is at least 0 and less than the divisor
pub quotient_is : (n q d r : ℤ) → r ≡ n -ℤ (q *ℤ d) → pos 0 ≤ℤ r → r <ℤ d → q ≡ floor_div n d
quotient_is n q (pos m) (pos k) e low high =
    sym (quotient_of_parts n q m k (omega (arith, ints, e)) (omega (arith, ints, high)))
quotient_is n q (negsuc m) (pos k) e low high = absurd (omega (arith, ints, high))
quotient_is n q d (negsuc k) e low high = absurd (omega (arith, ints, low))

-- a quotient is at least q if the number is at least q times the divisor
pub le-floor_div : (n q : ℤ) (d : ℕ) → 0 < d → (q *ℤ pos d) ≤ℤ n → q ≤ℤ floor_div n (pos d)
le-floor_div (pos a) (pos e) d some h =
    let small : e * d ≤ a = omega (arith, ints) in
    let q : e ≤ a / d = le-div e a d some small in omega (arith, ints)
le-floor_div (pos a) (negsuc e) d some h = omega (arith, ints)
le-floor_div (negsuc a) (pos e) d some h = absurd (omega (arith, ints))
le-floor_div (negsuc a) (negsuc e) d some h =
    let small : a < suc e * d = omega (arith, ints) in
    let q : a / d < suc e = div_below a d (suc e) some small in omega (arith, ints)

-- a quotient is less than q if the number is less than q times the divisor
pub floor_div-lt : (n q : ℤ) (d : ℕ) → 0 < d → n <ℤ (q *ℤ pos d) → floor_div n (pos d) <ℤ q
floor_div-lt (pos a) (pos e) d some h =
    let small : a < e * d = omega (arith, ints) in
    let q : a / d < e = div_below a d e some small in omega (arith, ints)
floor_div-lt (pos a) (negsuc e) d some h = absurd (omega (arith, ints))
floor_div-lt (negsuc a) (pos e) d some h = omega (arith, ints)
floor_div-lt (negsuc a) (negsuc e) d some h =
    let big : suc e * d ≤ a = omega (arith, ints) in
    let q : suc e ≤ a / d = le-div (suc e) a d some big in omega (arith, ints)
