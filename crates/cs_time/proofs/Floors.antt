-- The time along a ramp equals its formula with signed numbers.
use Rattle.std.proofs.Common.{◌≡◌, ℕ, ℤ, zero, suc, ◌+◌, ◌-◌, ◌*◌, ◌/◌, ◌<◌, ◌≤◌, pos, neg_ℤ, ◌+ℤ◌, ◌-ℤ◌, ◌*ℤ◌}
use Rattle.std.proofs.Common.{unsigned_abs, arith, refl, ap, sym, ◌∙◌, ⊎_elim}
use Rattle.std.specs.Int.{int_div_euclid}
use Rattle.std.proofs.Math.Nat.{div-le_self, mul-zero}
use Rattle.std.proofs.lemmas.{Nat.mul-le, Int.ints, Bool.cases_lt}
use Rattle.cs_base.specs.Numbers.{floor_div}
use Rattle.cs_time.specs.{Time.ramp_time, inner.Ramps.ramp_in_parts, inner.Ramps.rounded_up}
use Rattle.cs_time.proofs.Ramps.{ramp_up, ramp_down, ramp_grows, ramp_small, ramp_of_nothing, nothing_shared}
use Rattle.cs_time.proofs.Ramps.{quotient_below, quotient_above, up_least, up_most, shorter_within}

times_up : (f l y : ℕ) → f ≤ l → (pos l -ℤ pos f) *ℤ pos y ≡ pos ((l - f) * y)
times_up f l y h = let e : pos l -ℤ pos f ≡ pos (l - f) = omega (arith, ints) in ap (λ z. z *ℤ pos y) e

neg_times : (m n : ℕ) → neg_ℤ (pos m) *ℤ pos n ≡ neg_ℤ (pos (m * n))
neg_times zero n = omega (arith, ints)
neg_times (suc m) n = refl

times_down : (f l y : ℕ) → l ≤ f → (pos l -ℤ pos f) *ℤ pos y ≡ neg_ℤ (pos ((f - l) * y))
times_down f l y h = let e : pos l -ℤ pos f ≡ neg_ℤ (pos (f - l)) =
    omega (arith, ints) in ap (λ z. z *ℤ pos y) e ∙ neg_times (f - l) y

-- n + 1 divided and rounded up is one more than n divided and rounded down
same_quotient : (d u q n : ℕ) → 0 < d → suc n ≤ d * u → d * u < suc n + d → d * q ≤ n → n < d * q + d → u ≡ q + 1
same_quotient d u q n h a b c e =
    ⊎_elim
    (λ (l : u < q + 1). let m : d * u ≤ d * q = mul-le d u d q (omega arith) (omega arith) in absurd (omega (arith, m)))
    (λ (l : q + 1 ≤ u). ⊎_elim
    (λ (g : q + 1 < u). let m : d * (q + 2) ≤ d * u =
    mul-le d (q + 2) d u (omega arith) (omega arith) in absurd (omega (arith, m)))
    (λ (g : u ≤ q + 1). omega arith) (cases_lt (q + 1) u)) (cases_lt u (q + 1))

-- subtracting a quotient rounded up is the same as adding the negative quotient rounded down
up_of_more : (n d : ℕ) → 0 < d → rounded_up (suc n) d ≡ n / d + 1
up_of_more n d h =
    let a = up_least (suc n) d h in
    let b = up_most (suc n) d h in
    let c = quotient_below n d in
    let e = quotient_above n d h in
    same_quotient d (rounded_up (suc n) d) (n / d) n h a b c e

none_up : (d : ℕ) → 0 < d → rounded_up 0 d ≡ 0
none_up d h =
    let a = up_most 0 d h in
    ⊎_elim
    (λ (l : 0 < rounded_up 0 d). let m : d * 1 ≤ d * rounded_up 0 d =
    mul-le d 1 d (rounded_up 0 d) (omega arith) l in absurd (omega (arith, a, m)))
    (λ (l : rounded_up 0 d ≤ 0). omega arith) (cases_lt 0 (rounded_up 0 d))

fallen : (n d e : ℕ) → 0 < d → rounded_up n d ≤ e
    → pos (e - rounded_up n d) ≡ pos e +ℤ int_div_euclid (neg_ℤ (pos n)) (pos d)
fallen zero d e h within = let u : rounded_up 0 d ≡ 0 = none_up d h in let z : 0 / d ≡ 0 =
    omega (arith, div-le_self 0 d) in omega (arith, ints, u, z)
fallen (suc n) d e h within = let u = up_of_more n d h in omega (arith, ints, u)

falls_within : (f l s x : ℕ) → 1000000 ≤ l → l ≤ f → 1 ≤ s → x ≤ s
    → rounded_up ((f - l) * (x * x)) (2 * s * 1000000) ≤ f * x / 1000000
falls_within f l s zero low falls some inside =
    let n : (f - l) * (0 * 0) ≡ 0 = omega arith in
    let u : rounded_up ((f - l) * (0 * 0)) (2 * s * 1000000) ≡ 0 =
    ap (λ m. rounded_up m (2 * s * 1000000)) n ∙ none_up (2 * s * 1000000) (omega arith) in omega (arith, u)
falls_within f l s (suc x) low falls some inside = shorter_within f l s (suc x) low falls (omega arith) inside

ramp_is : (f l s x : ℕ) → 1000000 ≤ f → 1000000 ≤ l → 1 ≤ s → x ≤ s →
    pos (ramp_in_parts f l s x) ≡ pos (f * x / 1000000) +ℤ floor_div ((pos l -ℤ pos f) *ℤ pos (x * x))
    (pos (2 * s * 1000000))
ramp_is f l s x low low' some inside =
    ⊎_elim
    (λ (h : l < f).
    let d : ℕ = 2 * s * 1000000 in
    let within : rounded_up ((f - l) * (x * x)) (2 * s * 1000000) ≤ f * x / 1000000 =
    falls_within f l s x low' (omega arith) some inside in
    ap pos (sym (ramp_down f l s x h))
    ∙ fallen ((f - l) * (x * x)) (2 * s * 1000000) (f * x / 1000000) (omega arith) within
    ∙ ap (λ z. pos (f * x / 1000000) +ℤ floor_div z (pos (2 * s * 1000000)))
    (sym (times_down f l (x * x) (omega arith))))
    (λ (h : f ≤ l).
    ap pos (sym (ramp_up f l s x h))
    ∙ ap (λ z. pos (f * x / 1000000) +ℤ floor_div z (pos (2 * s * 1000000))) (sym (times_up f l (x * x) h)))
    (cases_lt l f)

-- the formula equals the time in parts, at the beginning of a ramp and later
abbrev pub formula : ℕ → ℕ → ℕ → ℕ → ℤ
formula f l s x = pos (f * x / 1000000) +ℤ floor_div ((pos l -ℤ pos f) *ℤ pos (x * x)) (pos (2 * s * 1000000))

nothing_times : (f l : ℕ) → (pos l -ℤ pos f) *ℤ pos (0 * 0) ≡ pos 0
nothing_times f l =
    ⊎_elim
    (λ (h : l < f). times_down f l (0 * 0) (omega (arith, h)) ∙ ap (λ n. neg_ℤ (pos n)) (mul-zero (f - l)))
    (λ (h : f ≤ l). times_up f l (0 * 0) h ∙ ap pos (mul-zero (l - f))) (cases_lt l f)

formula_of_nothing : (f l s : ℕ) → formula f l s 0 ≡ pos 0
formula_of_nothing f l s =
    let a : f * 0 / 1000000 ≡ 0 = ap (λ n. n / 1000000) (mul-zero f) in
    let b : 0 / (2 * s * 1000000) ≡ 0 = nothing_shared (2 * s * 1000000) in
    ap (λ (z : ℤ). pos (f * 0 / 1000000) +ℤ floor_div z (pos (2 * s * 1000000))) (nothing_times f l)
    ∙ λ i. pos (a i) +ℤ pos (b i)

pub formula_is : (f l s x : ℕ) → 1000000 ≤ f → 1000000 ≤ l → x ≤ s → formula f l s x ≡ pos (ramp_in_parts f l s x)
formula_is f l s zero low low' inside = formula_of_nothing f l s ∙ sym (ap pos (ramp_of_nothing f l s))
formula_is f l s (suc x) low low' inside = sym (ramp_is f l s (suc x) low low' (omega (arith, inside)) inside)

pub ramp_time_of_nothing : (f l s : ℕ) → ramp_time f l s 0 ≡ 0
unfolding ramp_time
ramp_time_of_nothing f l s = ap unsigned_abs (formula_of_nothing f l s)

pub ramp_time_is : (f l s x : ℕ) → 1000000 ≤ f → 1000000 ≤ l → x ≤ s → ramp_time f l s x ≡ ramp_in_parts f l s x
unfolding ramp_time
ramp_time_is f l s x low low' inside = ap unsigned_abs (formula_is f l s x low low' inside)

pub no_less_than_nothing : (f l s x : ℕ) → 1000000 ≤ f → 1000000 ≤ l → x ≤ s → pos (ramp_time f l s x) ≡ formula f l s x
no_less_than_nothing f l s x low low' inside =
    ap pos (ramp_time_is f l s x low low' inside) ∙ sym (formula_is f l s x low low' inside)

-- time never falls along a ramp, and a millionth of a beat takes at most 60,000 nanoseconds
pub ramp_time_grows : (f l s x y : ℕ) → 1000000 ≤ f → 1000000 ≤ l → x ≤ y → y ≤ s
    → ramp_time f l s x ≤ ramp_time f l s y
ramp_time_grows f l s x y low low' order inside =
    let a = ramp_time_is f l s x low low' (omega (arith, order, inside)) in
    let b = ramp_time_is f l s y low low' inside in
    omega (arith, a, b, ramp_grows f l s x y low' order inside)

pub ramp_time_small : (f l s x : ℕ) → 1000000 ≤ f → 1000000 ≤ l → f ≤ 60000000000 → l ≤ 60000000000 → x ≤ s
    → ramp_time f l s x ≤ 60000 * x
ramp_time_small f l s x low low' fast fast' inside =
    omega (arith, ramp_time_is f l s x low low' inside, ramp_small f l s x fast fast' inside)
