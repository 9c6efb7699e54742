-- Ramps: the time along one never falls, and a millionth of a beat takes at most 60,000 nanoseconds.
use Rattle.std.proofs.Common.{◌≡◌, ℕ, zero, suc, ◌+◌, ◌-◌, ◌*◌, ◌/◌, ◌<◌, ◌≤◌, arith, ap, refl, ◌∙◌, ⊎_elim, ◌⊎◌, inl}
use Rattle.std.proofs.{Common.inr, Common.lit<, Math.Nat.mul-zero}
use Rattle.std.proofs.Math.Nat.{mul-le-mul_left, mul-div-le, le_of_mul-le-mul_left, eq-or-lt_of_le, div-le_self}
use Rattle.std.proofs.lemmas.Nat.{le-div, mul-le, mod_below, div_below, div-add-mod'}
use Rattle.std.proofs.lemmas.{Bool.cases_lt, Bool.Decides.nat_tests, Bool.Decides.leb_tells}
use Rattle.cs_time.specs.inner.Ramps.{ramp_in_parts, rounded_up}

-- a quotient grows with its dividend
pub div_grows : (a b d : ℕ) → a ≤ b → a / d ≤ b / d
div_grows a b zero h = omega arith
div_grows a b (suc d) h = le-div (a / suc d) b (suc d) (omega arith) (omega (arith, mul-div-le a (suc d)))

-- a quotient times its divisor is at most the dividend
pub quotient_below : (a d : ℕ) → d * (a / d) ≤ a
quotient_below a d = mul-div-le a d

pub quotient_above : (a d : ℕ) → 0 < d → a < d * (a / d) + d
quotient_above a d h = omega (arith, div-add-mod' a d, mod_below a d h)

-- The main inequality. A beat's duration falls from D + e to e along a ramp of T half places. Between the
-- places x and x + k, rounding loses less than the duration of the k places, each of which takes at least M.
heart : (M T D e x k u qx qy cx cy : ℕ) → M ≤ e → 1 ≤ k → T ≡ x + (x + k) + u → M * qx ≤ (D + e) * x →
    (D + e) * (x + k) < M * qy + M → D * (x * x) ≤ T * M * cx → T * M * cy < D * ((x + k) * (x + k)) + T * M
    → qx + cy ≤ qy + cx
heart M T D e x k u qx qy cx cy low some halves below above up down =
    ⊎_elim
    (λ (h : qy + cx < qx + cy).
    let a : T * M * (qy + cx + 1) ≤ T * M * (qx + cy) = mul-le-mul_left (T * M) (omega arith) in
    let b : T * (M * qx) ≤ T * ((D + e) * x) = mul-le-mul_left T below in
    let c : T * ((D + e) * (x + k) + 1) ≤ T * (M * qy + M) = mul-le-mul_left T (omega arith) in
    let d : M * 1 ≤ e * k = mul-le M 1 e k low some in
    let d' : T * (M * 1) ≤ T * (e * k) = mul-le-mul_left T d in
    let f : T * (D * k) ≡ (x + (x + k) + u) * (D * k) = ap (λ t. t * (D * k)) halves in
    absurd (omega (arith, a, b, c, d', f)))
    (λ (h : qx + cy ≤ qy + cx). h) (cases_lt (qy + cx) (qx + cy))

-- the time that a rise adds is small
pub longer_small : (r s x : ℕ) → 1 ≤ x → x ≤ s → 2000000 * (r * (x * x) / (2 * s * 1000000)) ≤ r * x
longer_small r s x some inside =
    let q : ℕ = r * (x * x) / (2 * s * 1000000) in
    let a : (2 * s * 1000000) * (r * (x * x) / (2 * s * 1000000)) ≤ r * (x * x) =
    quotient_below (r * (x * x)) (2 * s * 1000000) in
    let b : r * x * x ≤ r * x * s = mul-le-mul_left (r * x) inside in
    le_of_mul-le-mul_left {k = s} (omega (arith, a, b)) (omega arith)

-- a quotient rounded up, times its divisor, is at least the dividend
pub up_least : (n d : ℕ) → 0 < d → n ≤ d * rounded_up n d
up_least n d h = omega (arith, quotient_above (n + (d - 1)) d h)

pub up_most : (n d : ℕ) → 0 < d → d * rounded_up n d < n + d
up_most n d h = omega (arith, quotient_below (n + (d - 1)) d)

up_of_nothing : (n d : ℕ) → 0 < d → rounded_up (n * (0 * 0)) d ≡ 0
up_of_nothing n d h = let a : n * (0 * 0) + (d - 1) < 1 * d =
    omega arith in omega (arith, div_below (n * (0 * 0) + (d - 1)) d 1 h a)

zero_or_more : (n : ℕ) → (n ≡ 0) ⊎ (0 < n)
zero_or_more zero = inl refl
zero_or_more (suc n) = inr (omega arith)

paid : (D l s x k : ℕ) → 1000000 ≤ l → 1 ≤ s → 1 ≤ k → x + k ≤ s →
    (D + l) * x / 1000000 + rounded_up (D * ((x + k) * (x + k))) (2 * s * 1000000)
    ≤ (D + l) * (x + k) / 1000000 + rounded_up (D * (x * x)) (2 * s * 1000000)
paid D l s x k low some more inside =
    heart 1000000 (2 * s) D l x k (2 * s - (x + (x + k))) ((D + l) * x / 1000000) ((D + l) * (x + k) / 1000000)
    (rounded_up (D * (x * x)) (2 * s * 1000000)) (rounded_up (D * ((x + k) * (x + k))) (2 * s * 1000000)) low more
    (omega arith) (quotient_below ((D + l) * x) 1000000) (quotient_above ((D + l) * (x + k)) 1000000 (lit< tt))
    (up_least (D * (x * x)) (2 * s * 1000000) (omega arith))
    (up_most (D * ((x + k) * (x + k))) (2 * s * 1000000) (omega arith))

-- the time that a fall takes away between two places is at most the duration of the beats between them
pub shorter_pays : (f l s x y : ℕ) → 1000000 ≤ l → l ≤ f → 1 ≤ s → x ≤ y → y ≤ s →
    f * x / 1000000 + rounded_up ((f - l) * (y * y)) (2 * s * 1000000)
    ≤ f * y / 1000000 + rounded_up ((f - l) * (x * x)) (2 * s * 1000000)
shorter_pays f l s x y low falls some order inside =
    ⊎_elim
    (λ (e : x ≡ y). rw e (omega arith))
    (λ (h : x < y).
    let p = paid (f - l) l s x (y - x) low some (omega arith) (omega arith) in
    let a : f - l + l ≡ f = omega arith in
    let b : x + (y - x) ≡ y = omega arith in rw (a, b) at p) (eq-or-lt_of_le order)

-- time never falls along a ramp
pub ramp_grows : (f l s x y : ℕ) → 1000000 ≤ l → x ≤ y → y ≤ s → ramp_in_parts f l s x ≤ ramp_in_parts f l s y
unfolding ramp_in_parts
ramp_grows f l s x y low order inside =
    ⊎_elim
    (λ t. rw t.0 (
    let a = div_grows (f * x) (f * y) 1000000 (mul-le-mul_left f order) in
    let b = div_grows ((l - f) * (x * x)) ((l - f) * (y * y)) (2 * s * 1000000)
    (mul-le-mul_left (l - f) (mul-le x x y y order order)) in
    omega (arith, a, b)))
    (λ t. rw t.0 (
    ⊎_elim
    (λ (e : y ≡ 0). let e' : x ≡ 0 = omega arith in rw (e, e') (omega arith))
    (λ (h : 0 < y).
    let a = shorter_pays f l s x y low (omega arith) (omega arith) order inside in
    let b = shorter_pays f l s 0 x low (omega arith) (omega arith) (omega arith) (omega arith) in
    let z = up_of_nothing (f - l) (2 * s * 1000000) (omega arith) in
    omega (arith, a, b, z)) (zero_or_more y))) (leb_tells f l)

pub nothing_shared : (d : ℕ) → 0 / d ≡ 0
nothing_shared d = omega (arith, div-le_self 0 d)

pub ramp_of_nothing : (f l s : ℕ) → ramp_in_parts f l s 0 ≡ 0
unfolding ramp_in_parts
ramp_of_nothing f l s =
    let a : f * 0 / 1000000 ≡ 0 = ap (λ n. n / 1000000) (mul-zero f) in
    ⊎_elim
    (λ t. rw t.0 (let b : (l - f) * (0 * 0) / (2 * s * 1000000) ≡ 0 =
    ap (λ n. n / (2 * s * 1000000)) (mul-zero (l - f)) ∙ nothing_shared (2 * s * 1000000) in omega (arith, a, b)))
    (λ t. rw t.0 (omega (arith, a))) (leb_tells f l)

risen_small : (f w x a b : ℕ) → f + w ≤ 60000000000 → 1000000 * a ≤ f * x → 2000000 * b ≤ w * x → a + b ≤ 60000 * x
risen_small f w x a b fast p q =
    let m : (f + w) * x ≤ 60000000000 * x = mul-le (f + w) x 60000000000 x fast (omega arith) in omega (arith, m)

-- a millionth of a beat takes at most 60,000 nanoseconds
pub ramp_small : (f l s x : ℕ) → f ≤ 60000000000 → l ≤ 60000000000 → x ≤ s → ramp_in_parts f l s x ≤ 60000 * x
unfolding ramp_in_parts
ramp_small f l s x fast fast' inside =
    let a = quotient_below (f * x) 1000000 in
    ⊎_elim
    (λ (e : x ≡ 0). rw e (rw ramp_of_nothing (omega arith)))
    (λ (h : 0 < x).
    ⊎_elim
    (λ t. rw t.0 (risen_small f (l - f) x _ _ (omega arith) a (longer_small (l - f) s x h inside)))
    (λ t. rw t.0 (let m : f * x ≤ 60000000000 * x = mul-le f x 60000000000 x fast (omega arith) in omega (arith, a, m)))
    (leb_tells f l)) (zero_or_more x)

-- the time with beats of a constant duration is small
pub steady_small : (f x : ℕ) → f ≤ 60000000000 → f * x / 1000000 ≤ 60000 * x
steady_small f x fast =
    let a = quotient_below (f * x) 1000000 in
    let m : f * x ≤ 60000000000 * x = mul-le f x 60000000000 x fast (omega arith) in omega (arith, a, m)

-- a fall takes away no more time than the beats would last
pub shorter_within : (f l s x : ℕ) → 1000000 ≤ l → l ≤ f → 1 ≤ x → x ≤ s →
    rounded_up ((f - l) * (x * x)) (2 * s * 1000000) ≤ f * x / 1000000
shorter_within f l s x low falls some inside =
    let a = shorter_pays f l s 0 x low falls (omega arith) (omega arith) inside in
    let z = up_of_nothing (f - l) (2 * s * 1000000) (omega arith) in
    let n : f * 0 / 1000000 ≡ 0 = ap (λ n. n / 1000000) (mul-zero f) in omega (arith, a, z, n)

pub ramp_up : (f l s x : ℕ) → f ≤ l → f * x / 1000000 + (l - f) * (x * x) / (2 * s * 1000000) ≡ ramp_in_parts f l s x
unfolding ramp_in_parts
ramp_up f l s x h = grind (arith, nat_tests)

pub ramp_down : (f l s x : ℕ) → l < f
    → f * x / 1000000 - rounded_up ((f - l) * (x * x)) (2 * s * 1000000) ≡ ramp_in_parts f l s x
unfolding ramp_in_parts
ramp_down f l s x h = grind (arith, nat_tests)
