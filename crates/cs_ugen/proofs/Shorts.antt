-- The curve of points, place by place, and points that fit into 32 bits.
use Rattle.std.proofs.Common.{◌≡◌, ℕ, ◌+◌, ◌-◌, ◌%◌, ◌<◌, ◌≤◌, ◌⊎◌, inl, inr, ⊎_elim, ◌==◌, true, false, if◌then◌else◌}
use Rattle.std.proofs.Common.{List, [], ◌∷◌, ◌++◌, length, take, ℤ, pos, negsuc, ◌-ℤ◌, ◌*ℤ◌, unsigned_abs, ◌^◌, ap, sym}
use Rattle.std.proofs.Common.{◌∙◌, subst, arith}
use Rattle.std.proofs.{Common.length-append, Math.ListN.get_or-eq_default, Math.Seq.take-append_seam}
use Rattle.std.proofs.lemmas.{Bool.cases_lt, Bool.Decides.nat_tests, Int.ints}
use Rattle.std.proofs.lemmas.List.{length-take-le, take_all, take_more}
use Rattle.cs_base.specs.Numbers.{IsRaw, floor_div}
use Rattle.cs_gen.proofs.Quotients.{floor_div_within, on_line, product_within}
use Rattle.cs_gen.specs.{Points.guard_place, Points.len_of, Tables.curve_of}
use Rattle.cs_signal.specs.Operands.{argument}
use Rattle.cs_ugen.specs.Points.{AreShort, IsShort, between_points, curve_len, is_len}
use Rattle.cs_ugen.proofs.Curves.{is_len-bounds}

-- the guard point is the last point, or it is appended
pub guard_last : (ps : List ℤ) → length ps % 2 ≡ 1 → curve_of ps ≡ ps
guard_last ps odd =
    let n : ℕ = length ps - 1 in
    let is : (length ps % 2 == 1) ≡ true = grind (arith, nat_tests) in
    let len : len_of (length ps) ≡ n = omega arith in
    ap (λ k. take k ps ++ argument ps (guard_place (length ps)) ∷ []) len
    ∙ ap (λ b. take n ps ++ argument ps (if b then n else 0) ∷ []) is ∙ sym (take_more ps n (pos 0) (omega arith))
    ∙ take_all (n + 1) ps (omega arith)

pub guard_behind : (ps : List ℤ) → length ps % 2 ≡ 0 → curve_of ps ≡ ps ++ argument ps 0 ∷ []
guard_behind ps even =
    let is : (length ps % 2 == 1) ≡ false = grind (arith, nat_tests) in
    ap (λ b. take (len_of (length ps)) ps ++ argument ps (if b then length ps - 1 else 0) ∷ []) is
    ∙ ap (λ l. l ++ argument ps 0 ∷ []) (take_all (len_of (length ps)) ps (omega arith))

odd_or_even : (n : ℕ) → (n % 2 ≡ 1) ⊎ (n % 2 ≡ 0)
odd_or_even n = ⊎_elim (λ h. inr (omega arith)) (λ h. inl (omega arith)) (cases_lt (n % 2) 1)

-- the points of a curve before the guard point are the table's points
pub points_kept : (ps : List ℤ) → take (length ps) (curve_of ps) ≡ ps
points_kept ps = ⊎_elim
    (λ odd. ap (take (length ps)) (guard_last ps odd) ∙ take_all (length ps) ps (omega arith))
    (λ even. ap (take (length ps)) (guard_behind ps even) ∙ take-append_seam ps (argument ps 0 ∷ []))
    (odd_or_even (length ps))

pub points_fit : (ps : List ℤ) → length ps ≤ length (curve_of ps)
points_fit ps =
    let m : ℕ = len_of (length ps) in
    let first : length (take m ps) ≡ m = length-take-le m ps (omega arith) in
    let long = length-append (take m ps) (argument ps (guard_place (length ps)) ∷ []) in
    omega (arith, first, long)

-- the length of a curve is the length of its table
pub curve_long : (ps : List ℤ) → is_len (len_of (length ps)) ≡ true → curve_len (curve_of ps) ≡ len_of (length ps)
curve_long ps power =
    let low = (is_len-bounds (len_of (length ps)) power).0 in
    let first : length (take (len_of (length ps)) ps) ≡ len_of (length ps) =
    length-take-le (len_of (length ps)) ps (omega arith) in
    let long = length-append (take (len_of (length ps)) ps) (argument ps (guard_place (length ps)) ∷ []) in
    omega (arith, first, long)

zero_short : IsShort (pos 0)
zero_short = (omega (arith, ints), omega (arith, ints))

-- the points are short up to one more place
pub short_more : (ps : List ℤ) (place k : ℕ) (x : ℤ) → ((i : ℕ) → i < place → IsShort (argument ps i))
    → x ≡ argument ps place → IsShort x → k < place + 1 → IsShort (argument ps k)
short_more ps place k x h is short below = ⊎_elim
    (λ p. h k p)
    (λ p. let e : place ≡ k = omega arith in subst IsShort (is ∙ ap (argument ps) e) short) (cases_lt k place)

-- all points are short
pub short_all : (ps : List ℤ) (place : ℕ) → ((i : ℕ) → i < place → IsShort (argument ps i)) → length ps ≤ place
    → AreShort ps
short_all ps place h all k = ⊎_elim
    (λ p. h k p)
    (λ p. subst IsShort (sym (get_or-eq_default ps (pos 0) (omega arith))) zero_short) (cases_lt k place)

-- the difference of two short points is below 2^32
pub short_rise : (x y : ℤ) → IsShort x → IsShort y → unsigned_abs (y -ℤ x) < 2 ^ 32
short_rise x y hx hy = omega (arith, ints, hx.0, hx.1, hy.0, hy.1)

-- the product of two short numbers in 65,536ths is in range
in_range : (z : ℤ) → unsigned_abs z ≤ 70368744177664 → IsRaw z
in_range z h = (omega (arith, ints, h), omega (arith, ints, h))

pub short_ratio : (x y : ℤ) → IsShort x → IsShort y → IsRaw (floor_div (x *ℤ y) (pos 65536))
short_ratio x y hx hy =
    let small = product_within x y 2147483648 2147483648 (omega (arith, ints, hx.0, hx.1))
    (omega (arith, ints, hy.0, hy.1)) in
    in_range (floor_div (x *ℤ y) (pos 65536))
    (floor_div_within (x *ℤ y) 70368744177664 65536 (omega arith) (omega (arith, small)))

-- every value between two short points is short
pub between_short : (ps : List ℤ) (place fraction : ℕ) → AreShort ps → fraction < 65536
    → IsShort (between_points ps place fraction)
unfolding between_points
between_short ps place fraction h below =
    let a = h place in
    let b = h (place + 1) in
    on_line (negsuc 2147483647) (pos 2147483647) (argument ps place) (argument ps (place + 1)) fraction 65536 below a.0
    b.0 a.1 b.1
