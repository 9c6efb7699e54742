-- A straight line by additions in 2^64ths: a number's parts from an inverse that is rounded up.
use Rattle.std.proofs.Common.{◌≡◌, ℕ, suc, ◌+◌, ◌-◌, ◌*◌, ◌/◌, ◌%◌, ◌<◌, ◌≤◌, List, [], ◌∷◌, ◌++◌, length, map, ℤ, pos}
use Rattle.std.proofs.Common.{◌+ℤ◌, ◌-ℤ◌, ◌*ℤ◌, refl, set, unsigned_abs, ◌^◌, ap, sym, ◌∙◌, arith}
use Rattle.std.proofs.Math.Nat.{add-mul, lt_of_mul-lt-mul_right, mod-lt, mul-add, mul_assoc, mul_comm}
use Rattle.std.proofs.lemmas.{Int.ints, List.FromFn.map-range_with_len_more, Nat.div-add-mod', Nat.mul-le, Nat.mul-lt}
use Rattle.std.proofs.lemmas.List.{take_more_set, length-set, take_all}
use Rattle.std.specs.List.{range_with_len}
use Rattle.cs_base.specs.Numbers.{clamp, floor_div}
use Rattle.cs_base.proofs.Quotients.{quotient_of_parts}
use Rattle.cs_signal.specs.Line.{part_way}
use Rattle.cs_signal.specs.inner.Ramp.{HasRisen, IsInverse, IsParted, ramp_of}
use Rattle.cs_signal.proofs.Ramps.{once_more, spread}

-- the inverse that the code computes is right
pub inverse_is : (d : ℕ) → 1 ≤ d → IsInverse d (18446744073709551615 / d + 1)
inverse_is d some =
    let k : ℕ = 18446744073709551615 / d in
    let parts : k * d + 18446744073709551615 % d ≡ 18446744073709551615 = div-add-mod' 18446744073709551615 d in
    let below : 18446744073709551615 % d < d = mod-lt 18446744073709551615 (omega (arith, some)) in
    let more : (k + 1) * d ≡ k * d + 1 * d = add-mul k 1 d in
    (omega (arith, parts, below, more), omega (arith, parts, more))

-- a number divided by a divisor, through an inverse that is too large by `more` 2^64ths of the divisor
module _ (over d inverse more : ℕ) (some : 1 ≤ d) (near : inverse * d ≡ 18446744073709551616 + more)
    (few : over * more < 18446744073709551616) where
  abbrev often : ℕ
  often = over / d

  abbrev last : ℕ
  last = over % d

  abbrev behind : ℕ
  behind = often * more + last * inverse

  parts : often * d + last ≡ over
  parts = div-add-mod' over d

  below : last < d
  below = mod-lt over (omega (arith, some))

  -- k times the inverse
  times : (k : ℕ) → k * inverse * d ≡ k * 18446744073709551616 + k * more
  times k = mul_assoc k inverse d ∙ ap (λ x. k * x) near ∙ mul-add k 18446744073709551616 more

  whole : often * d * inverse ≡ often * 18446744073709551616 + often * more
  whole = mul_assoc often d inverse ∙ ap (λ x. often * x) (mul_comm d inverse ∙ near)
      ∙ mul-add often 18446744073709551616 more

  product : over * inverse ≡ often * 18446744073709551616 + behind
  product =
      let e : over * inverse ≡ often * d * inverse + last * inverse =
      ap (λ x. x * inverse) (sym parts) ∙ add-mul (often * d) last inverse in
      let w = whole in omega (arith, e, w)

  scaled : behind * d ≡ over * more + last * 18446744073709551616
  scaled =
      let e : behind * d ≡ often * more * d + last * inverse * d = add-mul (often * more) (last * inverse) d in
      let f : often * more * d ≡ often * d * more =
      mul_assoc often more d ∙ ap (λ x. often * x) (mul_comm more d) ∙ sym (mul_assoc often d more) in
      let g : over * more ≡ often * d * more + last * more =
      ap (λ x. x * more) (sym parts) ∙ add-mul (often * d) last more in
      let h = times last in omega (arith, e, f, g, h)

  small : behind < 18446744073709551616
  small =
      let e = scaled in
      let b = below in
      let swapped : 18446744073709551616 * d ≡ d * 18446744073709551616 = mul_comm 18446744073709551616 d in
      lt_of_mul-lt-mul_right d (omega (arith, e, b, swapped, few))

-- a number in 2^64ths has the same integer part as the number itself
pub record IsTold (z from at : ℤ) (d : ℕ) : Type 0 where
  pub by : ℤ
  pub rest : ℕ
  pub value : floor_div at (pos 18446744073709551616) ≡ from +ℤ by
  pub parts : IsParted z d by rest

pub is_told : (z from at whole : ℤ) (d inverse over more : ℕ) → 1 ≤ d → inverse * d ≡ 18446744073709551616 + more
    → over * more < 18446744073709551616 → at ≡ (whole *ℤ pos 18446744073709551616) +ℤ pos (over * inverse)
    → z ≡ ((whole -ℤ from) *ℤ pos d) +ℤ pos over → IsTold z from at d
is_told z from at whole d inverse over more some near few told sum =
    let q : ℕ = often over d inverse more some near few in
    let r : ℕ = last over d inverse more some near few in
    let left : ℕ = behind over d inverse more some near few in
    let e : over * inverse ≡ q * 18446744073709551616 + left = product over d inverse more some near few in
    let p : q * d + r ≡ over = parts over d inverse more some near few in
    let wide : (whole +ℤ pos q) *ℤ pos 18446744073709551616
    ≡ (whole *ℤ pos 18446744073709551616) +ℤ (pos q *ℤ pos 18446744073709551616) =
    spread whole (pos q) 18446744073709551616 in
    let both : ((whole -ℤ from) +ℤ pos q) *ℤ pos d ≡ ((whole -ℤ from) *ℤ pos d) +ℤ (pos q *ℤ pos d) =
    spread (whole -ℤ from) (pos q) d in
    let there : floor_div at (pos 18446744073709551616) ≡ whole +ℤ pos q =
    quotient_of_parts at (whole +ℤ pos q) 18446744073709551616 left (omega (arith, ints, told, wide, e))
    (small over d inverse more some near few) in
    record {
      by = (whole -ℤ from) +ℤ pos q;
      rest = r;
      value = there ∙ omega (arith, ints);
      parts = record {
        sum = omega (arith, ints, sum, both, p);
        below = below over d inverse more some near few;
      };
    }

-- over few steps with a small divisor, every value in 2^64ths has the right integer part
pub steps_told : (from to : ℤ) (n d inverse count j : ℕ) (at : ℤ) (out : List ℤ) → 1 ≤ d → d ≤ 2 ^ 26 → j < 4096
    → IsInverse d inverse → HasRisen from to n d inverse count j at out → IsTold ((to -ℤ from) *ℤ pos (n + j)) from at d
steps_told from to n d inverse count j at out some short early inv h =
    let more : ℕ = inverse * d - 18446744073709551616 in
    let low = inv.0 in
    let high = inv.1 in
    let few = h.few in
    let many : (j + 1) * d ≤ 4096 * 67108864 = mul-le (j + 1) d 4096 67108864 (omega arith) (omega (arith, short)) in
    let size : h.over * more < 274877906944 * 67108864 =
    mul-lt h.over more 274877906944 67108864 (omega (arith, few, many)) (omega (arith, low, high, short)) in
    is_told ((to -ℤ from) *ℤ pos (n + j)) from at h.whole d inverse h.over more some (omega (arith, low))
    (omega (arith, size)) h.told h.sum

pub HasRisen_none : (from to : ℤ) (n d inverse count : ℕ) (at whole : ℤ) (over : ℕ) (out : List ℤ) → length out ≡ count
    → at ≡ (whole *ℤ pos 18446744073709551616) +ℤ pos (over * inverse)
    → IsParted ((to -ℤ from) *ℤ pos n) d (whole -ℤ from) over → unsigned_abs at < 2 ^ 113
    → HasRisen from to n d inverse count 0 at out
HasRisen_none from to n d inverse count at whole over out long told p bound =
    let below = p.below in
    let none : n ≡ n + 0 = omega arith in
    record {
      long = long;
      done = refl;
      whole = whole;
      over = over;
      told = told;
      sum = ap (λ m. (to -ℤ from) *ℤ pos m) (sym none) ∙ p.sum;
      few = omega (arith, below);
      bound = omega (arith, bound);
    }

pub HasRisen_more : (from to : ℤ) (n d inverse count j : ℕ) (at by at' v : ℤ) (s : ℕ) (out : List ℤ) (y : ℤ)
    → HasRisen from to n d inverse count j at out → j < count → IsParted (to -ℤ from) d v s
    → by ≡ (v *ℤ pos 18446744073709551616) +ℤ pos (s * inverse) → unsigned_abs by < 2 ^ 113 → at' ≡ at +ℤ by
    → y ≡ clamp (part_way from to (n + j) d) → HasRisen from to n d inverse count (j + 1) at' (set out j y)
HasRisen_more from to n d inverse count j at by at' v s out y h inside p told bound sum value =
    let f : ℕ → ℤ = λ i. clamp (part_way from to i d) in
    let long = h.long in
    let here = h.told in
    let room = h.bound in
    let few = h.few in
    let below = p.below in
    let place : n + (j + 1) ≡ suc (n + j) = omega arith in
    let more : (h.over + s) * inverse ≡ h.over * inverse + s * inverse = add-mul h.over s inverse in
    let wide : (h.whole +ℤ v) *ℤ pos 18446744073709551616
    ≡ (h.whole *ℤ pos 18446744073709551616) +ℤ (v *ℤ pos 18446744073709551616) =
    spread h.whole v 18446744073709551616 in
    let on : (h.whole +ℤ v) -ℤ from ≡ (h.whole -ℤ from) +ℤ v = omega (arith, ints) in
    let both : ((h.whole -ℤ from) +ℤ v) *ℤ pos d ≡ ((h.whole -ℤ from) *ℤ pos d) +ℤ (v *ℤ pos d) =
    spread (h.whole -ℤ from) v d in
    let so_far = h.sum in
    let step = p.sum in
    let turns : ((j + 1) + 1) * d ≡ (j + 1) * d + 1 * d = add-mul (j + 1) 1 d in
    record {
      long = length-set out j y ∙ long;
      done = take_more_set out j y (omega arith) ∙ ap (λ l. l ++ y ∷ []) h.done
          ∙ ap (λ z. map f (range_with_len n j) ++ z ∷ []) value ∙ sym (map-range_with_len_more f n j (n + j) refl);
      whole = h.whole +ℤ v;
      over = h.over + s;
      told = omega (arith, ints, sum, here, told, wide, more);
      sum = ap (λ m. (to -ℤ from) *ℤ pos m) place ∙ once_more (to -ℤ from) (n + j)
          ∙ omega (arith, ints, so_far, step, both) ∙ sym (ap (λ z. (z *ℤ pos d) +ℤ pos (h.over + s)) on);
      few = omega (arith, few, below, turns);
      bound = omega (arith, ints, sum, room, bound);
    }

pub HasRisen_all : (from to : ℤ) (n d inverse count j : ℕ) (at : ℤ) (out : List ℤ)
    → HasRisen from to n d inverse count j at out → count ≤ j → j ≤ count → out ≡ ramp_of from to n d count
HasRisen_all from to n d inverse count j at out h p q =
    let long = h.long in
    let e : j ≡ count = omega arith in
    sym (take_all j out (omega arith)) ∙ h.done ∙ ap (ramp_of from to n d) e
