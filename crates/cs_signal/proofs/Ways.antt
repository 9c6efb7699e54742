-- A straight line before its end: its values are between its ends.
use Rattle.std.proofs.Common.{◌≡◌, ℕ, suc, ◌+◌, ◌*◌, ◌<◌, ◌≤◌, ⊎_elim, ℤ, pos, negsuc, ◌+ℤ◌, ◌-ℤ◌, ◌*ℤ◌, ◌≤ℤ◌, to_z}
use Rattle.std.proofs.Common.{of_z, w64, refl, subst, arith}
use Rattle.std.proofs.lemmas.{Bool.cases_lt, Int.ints, Nat.mul-le}
use Rattle.cs_base.specs.Numbers.{IsRaw}
use Rattle.cs_signal.specs.inner.Ramp.{IsParted}

-- a is at least b, because (b + 1) * d exceeds a * d plus a remainder
at_most : (a b d rest : ℕ) → b * d ≤ a * d + rest → rest < d → b ≤ a
at_most a b d rest h below = ⊎_elim
    (λ p. let more : suc a * d ≤ b * d = mul-le (suc a) d b d p (omega arith) in absurd (omega arith))
    (λ p. p) (cases_lt a b)

-- m / d of the way up by a is from 0 to a
up : (a m d rest : ℕ) (w : ℤ) → m ≤ d → IsParted (pos a *ℤ pos m) d w rest → (pos 0 ≤ℤ w) × (w ≤ℤ pos a)
up a m d rest (pos b) h p =
    let sum = p.sum in
    let far : a * m ≤ a * d = mul-le a m a d (omega arith) h in
    let parts : a * m ≡ b * d + rest = omega (arith, ints) in
    let most : b ≤ a = at_most a b d rest (omega arith) p.below in (omega (arith, ints), omega (arith, ints))
up a m d rest (negsuc b) h p =
    let sum = p.sum in
    let below = p.below in
    let big : 1 * d ≤ suc b * d = mul-le 1 d (suc b) d (omega arith) (omega arith) in
    absurd (omega (arith, ints))

-- m / d of the way down by a + 1 is from 0 to -(a + 1)
down : (a m d rest : ℕ) (w : ℤ) → m ≤ d → IsParted (negsuc a *ℤ pos m) d w rest → (negsuc a ≤ℤ w) × (w ≤ℤ pos 0)
down a m d rest (pos b) h p =
    let sum = p.sum in
    let below = p.below in
    let none : b * d ≡ 0 = omega (arith, ints) in
    let most : b ≤ 0 = at_most 0 b d 0 (omega arith) (omega arith) in (omega (arith, ints), omega (arith, ints))
down a m d rest (negsuc b) h p =
    let sum = p.sum in
    let below = p.below in
    let far : suc a * m ≤ suc a * d = mul-le (suc a) m (suc a) d (omega arith) h in
    let parts : suc b * d ≡ suc a * m + rest = omega (arith, ints) in
    let most : suc b ≤ suc a = at_most (suc a) (suc b) d rest (omega arith) p.below in
    (omega (arith, ints), omega (arith, ints))

between : (from to whole rise : ℤ) (m d rest : ℕ) → IsRaw from → IsRaw to → m ≤ d → to -ℤ from ≡ rise →
    IsParted (rise *ℤ pos m) d whole rest → IsRaw (from +ℤ whole)
between from to whole (pos a) m d rest f t h e p =
    let w = up a m d rest whole h p in
    let low = w.0 in let high = w.1 in let f0 = f.0 in let t1 = t.1 in (omega (arith, ints), omega (arith, ints))
between from to whole (negsuc a) m d rest f t h e p =
    let w = down a m d rest whole h p in
    let low = w.0 in let high = w.1 in let f1 = f.1 in let t0 = t.0 in (omega (arith, ints), omega (arith, ints))

pub on_way : (from to whole : ℤ) (m d rest : ℕ) → IsRaw from → IsRaw to → m ≤ d
    → IsParted ((to -ℤ from) *ℤ pos m) d whole rest → IsRaw (from +ℤ whole)
on_way from to whole m d rest f t h p = between from to whole (to -ℤ from) m d rest f t h refl p

pub parts_of_value : (z from whole value : ℤ) (d rest : ℕ) → value ≡ from +ℤ whole → IsParted z d whole rest
    → IsParted z d (value -ℤ from) rest
parts_of_value z from whole value d rest e p =
    let same : whole ≡ value -ℤ from = omega (arith, ints) in subst (λ w. IsParted z d w rest) same p

-- a value in range is unchanged as a 64-bit number
pub same_bits : (z : ℤ) → IsRaw z → to_z w64 (of_z w64 z) ≡ z
same_bits z h = let low = h.0 in let high = h.1 in omega (arith, ints)
