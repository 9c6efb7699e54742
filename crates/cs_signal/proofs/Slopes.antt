-- A linen in its rise and in its decay: its factor is a straight line.
use Rattle.std.proofs.Common.{◌≡◌, ℕ, zero, suc, ◌+◌, ◌-◌, ◌%◌, ◌<◌, ◌≤◌, ◌⊎◌, inl, inr, ◌==◌, ◌||◌, nat_le, nat_lt}
use Rattle.std.proofs.Common.{false, List, [], ◌∷◌, length, map, ℤ, pos, negsuc, ◌+ℤ◌, ◌-ℤ◌, ◌*ℤ◌, if◌then◌else◌, ap}
use Rattle.std.proofs.{Common.sym, Common.◌∙◌, Common.arith, Math.IntN.*ℤ_comm}
use Rattle.std.specs.List.{range_with_len}
use Rattle.std.proofs.lemmas.{Bool.Decides.nat_tests, Int.ints}
use Rattle.std.proofs.lemmas.List.FromFn.{get_or-map-range_with_len, length-map-range_with_len}
use Rattle.cs_base.proofs.Arithmetic.{clamp_in_range, clamp_same}
use Rattle.cs_base.specs.Numbers.{clamp, floor_div, one, product_of}
use Rattle.cs_signal.specs.{Line.part_way, Operands.argument, Pace.last_number, Pace.number_after, Steps.run}
use Rattle.cs_signal.specs.{inner.Level.IsRising, inner.Level.IsFalling, inner.Ramp.IsParted, inner.Ramp.ramp_of}
use Rattle.cs_signal.specs.Linen.{LinenState, linen_step, up_at, down_at}
use Rattle.cs_signal.proofs.Levels.{linen_at_step, not_falling, risen}
use Rattle.cs_signal.proofs.{Ramps.floor_is, Ramps.spread, Walks.led}

-- the results of steps with a known factor are the amplitude times this factor
linen_by : (x g : ℕ → ℤ) (s : LinenState) (j n : ℕ) → s.number + n ≤ last_number →
    ((i : ℕ) → i < n → product_of (up_at s.rise (s.number + i)) (down_at s.duration s.decay (s.number + i)) ≡ g (j + i))
    → run linen_step (λ j. x j ∷ []) s j n ≡
    (linen_at_step s (s.number + n), map (λ i. product_of (x i) (g i)) (range_with_len j n))
linen_by x g s j zero room h = ap (λ m. (linen_at_step s m, [])) (omega arith)
linen_by x g s j (suc n) room h =
    let t : LinenState = linen_at_step s (s.number + 1) in
    let e : number_after (s.number + 1) ≡ s.number + 1 = omega arith in
    let factor : ℕ → ℤ = λ m. product_of (up_at s.rise m) (down_at s.duration s.decay m) in
    let value : ℤ = product_of (x j) (factor s.number) in
    let here : factor s.number ≡ g j = ap factor (omega arith) ∙ h 0 (omega arith) ∙ ap g (omega arith) in
    let sum : (s.number + 1) + n ≡ s.number + suc n = omega arith in
    let later : (i : ℕ) → i < n → factor ((s.number + 1) + i) ≡ g ((j + 1) + i) =
    λ i p. ap factor (omega arith) ∙ h (i + 1) (omega arith) ∙ ap g (omega arith) in
    ap (λ m. led value (run linen_step (λ j. x j ∷ []) (linen_at_step s m) (j + 1) n)) e
    ∙ ap (led value) (linen_by x g t (j + 1) n (omega arith) later)
    ∙ ap (λ m. (linen_at_step s m, value ∷ map (λ i. product_of (x i) (g i)) (range_with_len (j + 1) n))) sum
    ∙ ap (λ z. (
      linen_at_step s (s.number + suc n),
      product_of (x j) z ∷ map (λ i. product_of (x i) (g i)) (range_with_len (j + 1) n),
    )) here

pub by_one : (z : ℤ) → product_of z one ≡ clamp z
by_one z = ap clamp (floor_is (z *ℤ one) z 65536 0 (record { sum = omega (arith, ints); below = omega arith }))

one_by : (z : ℤ) → product_of one z ≡ clamp z
one_by z = ap (λ p. clamp (floor_div p one)) (*ℤ_comm one z) ∙ by_one z

not_risen : (rise n : ℕ) → n < rise → nat_le rise n ≡ false
not_risen rise n h = grind (arith, nat_tests)

does_fall : (duration decay n : ℕ) → 0 < decay → duration ≤ n + decay
    → (decay == 0 || nat_lt (n + decay) duration) ≡ false
does_fall duration decay n some h = grind (arith, nat_tests)

rises : (rise duration decay n : ℕ) → n < rise → (decay ≡ 0) ⊎ (n + decay < duration) →
    product_of (up_at rise n) (down_at duration decay n) ≡ clamp (part_way (pos 0) one n rise)
rises rise duration decay n below level =
    let up : up_at rise n ≡ floor_div (one *ℤ pos n) (pos rise) =
    ap (λ b. if b then one else floor_div (one *ℤ pos n) (pos rise)) (not_risen rise n below) in
    let down : down_at duration decay n ≡ one =
    ap (λ b. if b then one else clamp (floor_div (one *ℤ (pos duration -ℤ pos n)) (pos decay)))
    (not_falling duration decay n level) in
    let none : floor_div (one *ℤ pos n) (pos rise) ≡ pos 0 +ℤ floor_div (one *ℤ pos n) (pos rise) =
    omega (arith, ints) in
    ap (λ z. product_of z (down_at duration decay n)) up ∙ ap (product_of (floor_div (one *ℤ pos n) (pos rise))) down
    ∙ by_one (floor_div (one *ℤ pos n) (pos rise)) ∙ ap clamp none

-- the remainder of a quotient that is rounded down
record Rest (z : ℤ) (d : ℕ) : Type 0 where
  part : ℕ
  is : IsParted z d (floor_div z (pos d)) part

rest_of : (z : ℤ) (d : ℕ) → 0 < d → Rest z d
rest_of (pos a) d h = record { part = a % d; is = record { sum = omega (arith, ints); below = omega arith } }
rest_of (negsuc a) d h = record { part = d - 1 - a % d; is = record { sum = omega (arith, ints); below = omega arith } }

-- adding an integer before or after rounding down is the same
floor_more : (z k : ℤ) (d : ℕ) → 0 < d → floor_div (z +ℤ (k *ℤ pos d)) (pos d) ≡ floor_div z (pos d) +ℤ k
floor_more z k d h =
    let r = rest_of z d h in
    let sum = r.is.sum in
    let q : ℤ = floor_div z (pos d) in
    let e = spread q k d in
    floor_is (z +ℤ (k *ℤ pos d)) (q +ℤ k) d r.part (record { sum = omega (arith, ints, sum, e); below = r.is.below })

falls : (rise duration decay n m : ℕ) → rise ≤ n → 0 < decay → duration ≤ n + decay → m + duration ≡ n + decay →
    product_of (up_at rise n) (down_at duration decay n) ≡ clamp (part_way one (pos 0) m decay)
falls rise duration decay n m over some low e =
    let left : ℤ = floor_div (one *ℤ (pos duration -ℤ pos n)) (pos decay) in
    let fallen : ℤ = (pos 0 -ℤ one) *ℤ pos m in
    let up : up_at rise n ≡ one =
    ap (λ b. if b then one else floor_div (one *ℤ pos n) (pos rise)) (risen rise n over) in
    let down : down_at duration decay n ≡ clamp left =
    ap (λ b. if b then one else clamp left) (does_fall duration decay n some low) in
    let whole : one *ℤ (pos duration -ℤ pos n) ≡ fallen +ℤ (one *ℤ pos decay) = omega (arith, ints, e) in
    let parts : left ≡ one +ℤ floor_div fallen (pos decay) =
    ap (λ z. floor_div z (pos decay)) whole ∙ floor_more fallen one decay some ∙ omega (arith, ints) in
    ap (λ z. product_of z (down_at duration decay n)) up ∙ ap (product_of one) down ∙ one_by (clamp left)
    ∙ clamp_same (clamp left) (clamp_in_range left) ∙ ap clamp parts

level_on : (n i k decay duration : ℕ) → i < k → (decay ≡ 0) ⊎ (n + k + decay ≤ duration)
    → (decay ≡ 0) ⊎ ((n + i) + decay < duration)
level_on n i k decay duration h (inl e) = inl e
level_on n i k decay duration h (inr p) = inr (omega arith)

pub linen_rises : (x : ℕ → ℤ) (s : LinenState) (n : ℕ) → IsRising s n → run linen_step (λ j. x j ∷ []) s 0 n ≡ (
  linen_at_step s (s.number + n),
  map (λ i. product_of (x i) (argument (ramp_of (pos 0) one s.number s.rise n) i)) (range_with_len 0 n),
)
linen_rises x s n h =
    let room = h.room in
    let rising = h.rising in
    linen_by x (λ i. argument (ramp_of (pos 0) one s.number s.rise n) i) s 0 n room
    (λ i p. rises s.rise s.duration s.decay (s.number + i) (omega arith)
    (level_on s.number i n s.decay s.duration p h.before)
    ∙ sym (get_or-map-range_with_len (λ m. clamp (part_way (pos 0) one m s.rise)) s.number n (0 + i) (s.number + i)
    (pos 0) (omega arith) (omega arith)))

pub linen_falls : (x : ℕ → ℤ) (s : LinenState) (n m : ℕ) → IsFalling s n → m + s.duration ≡ s.number + s.decay →
    run linen_step (λ j. x j ∷ []) s 0 n ≡ (
      linen_at_step s (s.number + n),
      map (λ i. product_of (x i) (argument (ramp_of one (pos 0) m s.decay n) i)) (range_with_len 0 n),
    )
linen_falls x s n m h from =
    let room = h.room in
    let risen = h.risen in
    let low = h.falling in
    linen_by x (λ i. argument (ramp_of one (pos 0) m s.decay n) i) s 0 n room
    (λ i p. falls s.rise s.duration s.decay (s.number + i) (m + i) (omega arith) h.some (omega arith) (omega arith)
    ∙ sym (get_or-map-range_with_len (λ k. clamp (part_way one (pos 0) k s.decay)) m n (0 + i) (m + i) (pos 0)
    (omega arith) (omega arith)))

-- a pass that multiplies a ramp by an operand
pub shaped_ramp : (x f : ℕ → ℤ) (a n : ℕ) (ramp out : List ℤ) → ramp ≡ map f (range_with_len a n) →
    out ≡ map (λ j. product_of (x j) (argument ramp j)) (range_with_len 0 (length ramp)) →
    out ≡ map (λ j. product_of (x j) (argument (map f (range_with_len a n)) j)) (range_with_len 0 n)
shaped_ramp x f a n ramp out e h =
    h ∙ ap (λ l. map (λ j. product_of (x j) (argument l j)) (range_with_len 0 (length l))) e
    ∙ ap (λ k. map (λ j. product_of (x j) (argument (map f (range_with_len a n)) j)) (range_with_len 0 k))
    (length-map-range_with_len f a n)
