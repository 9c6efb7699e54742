-- GEN10: a harmonic is added place by place, and harmonics are added one after another.
use Rattle.std.proofs.Common.{◌≡◌, ℕ, ◌+◌, ◌-◌, ◌*◌, ◌%◌, ◌^◌, ◌≤◌, ◌<◌, List, [], ◌∷◌, ◌++◌, map, length, set, get_or}
use Rattle.std.proofs.Common.{ℤ, pos, ◌+ℤ◌, ◌*ℤ◌, unsigned_abs, refl, sym, ◌∙◌, ap, subst, suc, negsuc, ◌/◌, arith}
use Rattle.std.proofs.Common.{⊎_elim, zero-add, ◌≤ℤ◌, FitsSigned, append-nil, drop, of_z, take, to_z, w64}
use Rattle.std.specs.{Int.w128, List.All, List.range_with_len}
use Rattle.std.proofs.lemmas.{Bool.cases_lt, List.Elements.All-append, Int.ints, Int.to_z-of_z, Nat.mul-mod_first}
use Rattle.std.proofs.lemmas.List.{ext_get_or, get_or-set_same, get_or-set_other, get_or_append_left, get_or_at}
use Rattle.std.proofs.lemmas.List.{drop_all, length-append, length-set, map-append, take_all, take_more}
use Rattle.std.proofs.lemmas.List.FromFn.{get_or-map-range_with_len, length-map-range_with_len, map-range_with_len_more}
use Rattle.std.proofs.{Math.IntN.zero-*ℤ, Math.Nat.mod-add-mod}
use Rattle.cs_gen.proofs.{Places.map-map, Quotients.within}
use Rattle.cs_gen.specs.Faults.{argument}
use Rattle.cs_base.specs.Numbers.{clamp, floor_div, total}
use Rattle.cs_gen.specs.Points.{at_places, full_scale, sine, harmonics, wave}
use Rattle.cs_gen.specs.inner.Harmonics.{AreRaised, AreSums, first_harmonics, harmonic}

-- the absolute value of a sum is at most the sum of the absolute values
unsigned_abs-sum : (x y : ℤ) → unsigned_abs (x +ℤ y) ≤ unsigned_abs x + unsigned_abs y
unsigned_abs-sum (pos a) (pos b) = omega arith
unsigned_abs-sum (pos a) (negsuc b) = within (pos a +ℤ negsuc b) (a + suc b) (omega (arith, ints)) (omega (arith, ints))
unsigned_abs-sum (negsuc a) (pos b) = within (negsuc a +ℤ pos b) (suc a + b) (omega (arith, ints)) (omega (arith, ints))
unsigned_abs-sum (negsuc a) (negsuc b) = omega arith

-- ---- one harmonic, place by place

-- the phase of a harmonic at the next place
phase-more : (len step i : ℕ) → (step * i % len + step) % len ≡ step * (i + 1) % len
phase-more len step i = mod-add-mod (step * i) len step ∙ ap (λ n. n % len) (omega arith)

-- a strength times the height at a harmonic's phase is the harmonic at this place
pub harmonic_is : (len step i phase : ℕ) (strength height part : ℤ) → phase ≡ step * i % len
    → height ≡ wave (phase * 2 ^ 24 / len) → part ≡ floor_div (strength *ℤ height) full_scale
    → part ≡ harmonic len step strength i
unfolding harmonic sine
harmonic_is len step i phase strength height part come is e =
    e ∙ ap (λ z. floor_div (strength *ℤ z) full_scale) is
    ∙ ap (λ k. floor_div (strength *ℤ wave (k * 2 ^ 24 / len)) full_scale) come

-- the state after the numbers at the first i places were increased
pub record IsRaisedTo (len step : ℕ) (by : ℕ → ℤ) (old new : List ℤ) (i phase : ℕ) : Type 0 where
  pub come : phase ≡ step * i % len
  pub inside : phase < len
  pub long : length new ≡ length old
  pub each : (j : ℕ) (d : ℤ) → j < i → get_or new j d ≡ get_or old j d +ℤ by j
  pub low : (j : ℕ) → j < i → unsigned_abs (by j) ≤ 2 ^ 47
  pub left : (j : ℕ) (d : ℤ) → i ≤ j → get_or new j d ≡ get_or old j d

pub raised-more : (len step : ℕ) (by : ℕ → ℤ) (old new more : List ℤ) (i phase next : ℕ) (sum : ℤ)
    → IsRaisedTo len step by old new i phase → i < length new → more ≡ set new i sum
    → ((d : ℤ) → sum ≡ get_or new i d +ℤ by i) → unsigned_abs (by i) ≤ 2 ^ 47
    → next ≡ (phase + step) % len → next < len → IsRaisedTo len step by old more (i + 1) next
raised-more len step by old new more i phase next sum r lt is raised low turned inside = record {
  come = turned ∙ ap (λ k. (k + step) % len) r.come ∙ phase-more len step i;
  inside = inside;
  long = ap length is ∙ length-set new i sum ∙ r.long;
  each = λ j d below. rw is (⊎_elim
      (λ before. get_or-set_other new i j sum d (λ e. absurd (omega (arith, e))) ∙ r.each j d before)
      (λ here. let e : j ≡ i = omega arith in
      rw e (get_or-set_same new i sum d lt ∙ raised d ∙ ap (λ z. z +ℤ by i) (r.left i d (omega arith))))
      (cases_lt j i));
  low = λ j below. ⊎_elim (λ before. r.low j before)
      (λ here. let e : j ≡ i = omega arith in rw e low) (cases_lt j i);
  left = λ j d le. rw is (get_or-set_other new i j sum d (λ e. absurd (omega (arith, e))) ∙ r.left j d (omega arith));
}

-- ---- numbers that fit their types

fits_64 : (z : ℤ) → unsigned_abs z ≤ 32767 → FitsSigned w64 z
fits_64 (pos n) low = omega (arith, low)
fits_64 (negsuc n) low = omega (arith, low)

pub height_fits : (z : ℤ) → unsigned_abs z ≤ 32767 → to_z w64 (of_z w64 z) ≡ z
height_fits z low = to_z-of_z w64 z (fits_64 z low)

fits_128 : (z : ℤ) → unsigned_abs z ≤ 2 ^ 126 → FitsSigned w128 z
fits_128 (pos n) low = omega (arith, low)
fits_128 (negsuc n) low = omega (arith, low)

pub sum_fits : (z : ℤ) → unsigned_abs z ≤ 2 ^ 126 → to_z w128 (of_z w128 z) ≡ z
sum_fits z low = to_z-of_z w128 z (fits_128 z low)

-- ---- one harmonic after another

total-snoc : (zs : List ℤ) (z : ℤ) → total (zs ++ z ∷ []) ≡ total zs +ℤ z
total-snoc [] z = omega (arith, ints)
total-snoc (y ∷ ys) z = omega (arith, ints, total-snoc ys z)

first_harmonics-none : (len : ℕ) (strengths : List ℤ) (j : ℕ) → pos 0 ≡ first_harmonics len strengths 0 j
unfolding first_harmonics
first_harmonics-none len strengths j = refl

first_harmonics-more : (len : ℕ) (strengths : List ℤ) (i j : ℕ)
    → first_harmonics len strengths (i + 1) j
    ≡ first_harmonics len strengths i j +ℤ harmonic len (i + 1) (argument strengths i) j
unfolding first_harmonics
first_harmonics-more len strengths i j =
    let at : ℕ → ℤ = λ h. harmonic len h (argument strengths (h - 1)) j in
    let more = map-range_with_len_more at 1 i (i + 1) (omega arith) in
    let snoc = total-snoc (map at (range_with_len 1 i)) (at (i + 1)) in
    let back : i + 1 - 1 ≡ i = omega arith in
    ap total more ∙ snoc
    ∙ ap (λ k. total (map at (range_with_len 1 i)) +ℤ harmonic len (i + 1) (argument strengths k) j) back

pub first_harmonics-all : (len : ℕ) (strengths : List ℤ) (j : ℕ)
    → first_harmonics len strengths (length strengths) j ≡ harmonics len strengths j
unfolding first_harmonics harmonics harmonic
first_harmonics-all len strengths j = refl

-- harmonics h and h mod len have the same phase at every place, so they are equal
harmonic-mod : (len h : ℕ) (strength : ℤ) (j : ℕ) → harmonic len (h % len) strength j ≡ harmonic len h strength j
unfolding harmonic sine
harmonic-mod len h strength j =
    ap (λ k. floor_div (strength *ℤ wave (k * 2 ^ 24 / len)) full_scale) (mul-mod_first h j len)

-- a harmonic of strength 0 adds nothing
weak : (z : ℤ) → floor_div (pos 0 *ℤ z) full_scale ≡ pos 0
weak z = ap (λ x. floor_div x full_scale) (zero-*ℤ z)

harmonic-weak : (len h j : ℕ) → harmonic len h (pos 0) j ≡ pos 0
unfolding harmonic
harmonic-weak len h j = weak (sine len h j)

pub sums-none : (len : ℕ) (strengths zeros : List ℤ) → All (λ z. z ≡ pos 0) zeros
    → AreSums len strengths 0 (length zeros) zeros
sums-none len strengths zeros none = record {
  long = refl;
  each = λ j d lt. none j d lt ∙ first_harmonics-none len strengths j;
  low = λ j d lt. let e = ap unsigned_abs (none j d lt) in omega (arith, e);
}

pub sums-more : (len : ℕ) (strengths : List ℤ) (i n : ℕ) (sums more : List ℤ) (step : ℕ) (strength : ℤ)
    → AreSums len strengths i n sums → step ≡ (i + 1) % len → strength ≡ argument strengths i
    → AreRaised (harmonic len step strength) sums more → AreSums len strengths (i + 1) n more
sums-more len strengths i n sums more step strength s at is r = record {
  long = r.long ∙ s.long;
  each = λ j d lt. r.each j d (omega (arith, s.long))
      ∙ ap (λ z. z +ℤ harmonic len step strength j) (s.each j d lt)
      ∙ ap (λ k. first_harmonics len strengths i j +ℤ harmonic len k strength j) at
      ∙ ap (λ z. first_harmonics len strengths i j +ℤ z) (harmonic-mod len (i + 1) strength j)
      ∙ ap (λ z. first_harmonics len strengths i j +ℤ harmonic len (i + 1) z j) is
      ∙ sym (first_harmonics-more len strengths i j);
  low = λ j d lt.
      let within : j < length sums = omega (arith, r.long) in
      subst (λ z. unsigned_abs z ≤ (i + 1) * 2 ^ 47) (sym (r.each j d within))
      (let far = unsigned_abs-sum (get_or sums j d) (harmonic len step strength j) in
      let before = s.low j d within in let low = r.low j within in omega (arith, far, before, low));
}

pub sums-weak : (len : ℕ) (strengths : List ℤ) (i n : ℕ) (sums : List ℤ) → AreSums len strengths i n sums
    → argument strengths i ≡ pos 0 → AreSums len strengths (i + 1) n sums
sums-weak len strengths i n sums s weak = record {
  long = s.long;
  each = λ j d lt. s.each j d lt ∙ sym (first_harmonics-more len strengths i j
      ∙ ap (λ z. first_harmonics len strengths i j +ℤ harmonic len (i + 1) z j) weak
      ∙ ap (λ z. first_harmonics len strengths i j +ℤ z) (harmonic-weak len (i + 1) j)
      ∙ add-zero (first_harmonics len strengths i j));
  low = λ j d lt. let before = s.low j d lt in omega (arith, before);
}
  where
    add-zero : (z : ℤ) → z +ℤ pos 0 ≡ z
    add-zero z = omega (arith, ints)

pub sums-room : (len : ℕ) (strengths : List ℤ) (i n : ℕ) (sums : List ℤ) → AreSums len strengths i n sums → i < 2 ^ 64
    → All (λ z. unsigned_abs z ≤ 2 ^ 126) sums
sums-room len strengths i n sums s few j d lt = let low = s.low j d lt in omega (arith, low, few)

-- ---- the heights of the wave

-- the heights at the first i places
pub record AreFirstHeights (len i : ℕ) (heights : List ℤ) : Type 0 where
  pub long : length heights ≡ i
  pub each : (p : ℕ) (d : ℤ) → p < i → get_or heights p d ≡ wave (p * 2 ^ 24 / len)
  pub low : All (λ h. unsigned_abs h ≤ 32767) heights

pub heights-more : (len i : ℕ) (heights more : List ℤ) (height : ℤ) → AreFirstHeights len i heights
    → more ≡ heights ++ height ∷ [] → height ≡ wave (i * 2 ^ 24 / len) → unsigned_abs height ≤ 32767
    → AreFirstHeights len (i + 1) more
heights-more len i heights more height f is e low = record {
  long = ap length is ∙ omega (arith, length-append heights (height ∷ []), f.long);
  each = λ p d lt. rw is (⊎_elim
      (λ before. get_or_append_left heights (height ∷ []) d p (omega (arith, f.long)) ∙ f.each p d before)
      (λ here. let at : p ≡ i = omega arith in
      rw at (get_or_at heights height [] d i f.long ∙ e)) (cases_lt p i));
  low = rw is (All-append (λ h. unsigned_abs h ≤ 32767) heights (height ∷ []) f.low (All-one height low));
}
  where
    All-one : (h : ℤ) → unsigned_abs h ≤ 32767 → All (λ x. unsigned_abs x ≤ 32767) (h ∷ [])
    All-one h low j d lt = let first : j ≡ 0 = omega arith in rw first low

pub is_low : (h : ℤ) → negsuc 32766 ≤ℤ h → h ≤ℤ pos 32767 → unsigned_abs h ≤ 32767
is_low (pos n) a b = omega (arith, ints)
is_low (negsuc n) a b = omega (arith, ints)

-- ---- the points

-- a list of which every item was overwritten
pub written_over : (n : ℕ) (new old : List ℤ) → length new ≡ length old → n ≡ length old
    → take n (new ++ drop (length new) old) ≡ new
written_over n new old same all =
    ap (λ xs. take n (new ++ xs)) (drop_all (length new) old (omega (arith, same)))
    ∙ ap (take n) (append-nil new) ∙ take_all n new (omega (arith, same, all))

-- one more sum, clamped
pub points-more : (sums points more : List ℤ) (i : ℕ) (point : ℤ) → i < length sums
    → points ≡ map clamp (take i sums) → more ≡ points ++ point ∷ [] → point ≡ clamp (get_or sums i (pos 0))
    → more ≡ map clamp (take (i + 1) sums)
points-more sums points more i point lt before m is =
    let last : ℤ = get_or sums i (pos 0) in
    m ∙ ap (λ z. points ++ z ∷ []) is ∙ ap (λ xs. xs ++ clamp last ∷ []) before
    ∙ sym (map-append clamp (take i sums) (last ∷ [])) ∙ sym (ap (map clamp) (take_more sums i (pos 0) lt))

-- the points are all sums, clamped
pub points_are : (len : ℕ) (strengths : List ℤ) (n : ℕ) (sums points : List ℤ)
    → AreSums len strengths (length strengths) n sums → points ≡ map clamp sums
    → points ≡ at_places n (λ j. clamp (harmonics len strengths j))
points_are len strengths n sums points s is =
    is ∙ ap (map clamp) all ∙ map-map clamp (harmonics len strengths) (range_with_len 0 n)
  where
    all : sums ≡ at_places n (harmonics len strengths)
    all = ext_get_or (pos 0) sums (at_places n (harmonics len strengths))
        (s.long ∙ sym (length-map-range_with_len (harmonics len strengths) 0 n))
        (λ j lt. s.each j (pos 0) (omega (arith, s.long)) ∙ first_harmonics-all len strengths j
        ∙ sym (get_or-map-range_with_len (harmonics len strengths) 0 n j j (pos 0) (omega (arith, s.long))
        (zero-add j)))
