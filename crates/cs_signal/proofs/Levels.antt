-- A linen between its rise and its decay.
use Rattle.std.proofs.Common.{◌≡◌, ℕ, zero, suc, ◌+◌, ◌<◌, ◌≤◌, ◌⊎◌, inl, inr, ◌==◌, ◌||◌, nat_le, nat_lt, true, List}
use Rattle.std.proofs.Common.{[], ◌∷◌, ◌++◌, length, map, set, ℤ, pos, ◌-ℤ◌, ◌*ℤ◌, if◌then◌else◌, refl, ap, sym, ◌∙◌}
use Rattle.std.proofs.Common.{arith}
use Rattle.std.specs.List.{range_with_len}
use Rattle.std.proofs.lemmas.{Bool.Decides.nat_tests, List.FromFn.map-range_with_len_more}
use Rattle.std.proofs.lemmas.List.{take_more_set, length-set, take_all}
use Rattle.cs_base.specs.Numbers.{clamp, floor_div, one, product_of}
use Rattle.cs_signal.specs.Linen.{LinenState, linen_step, up_at, down_at}
use Rattle.cs_signal.specs.{Pace.number_after, Steps.run, inner.Level.IsLevel, inner.Level.HasFilled}
use Rattle.cs_signal.proofs.Walks.{led}

pub HasFilled_none : (f : ℕ → ℤ) (count : ℕ) (out : List ℤ) → length out ≡ count → HasFilled f count 0 out
HasFilled_none f count out long = record { long = long; done = refl }

pub HasFilled_more : (f : ℕ → ℤ) (count j : ℕ) (out : List ℤ) (y : ℤ) → HasFilled f count j out → j < count → y ≡ f j
    → HasFilled f count (j + 1) (set out j y)
HasFilled_more f count j out y h inside e =
    let long = h.long in
    record {
      long = length-set out j y ∙ long;
      done = take_more_set out j y (omega arith) ∙ ap (λ l. l ++ y ∷ []) h.done
          ∙ ap (λ z. map f (range_with_len 0 j) ++ z ∷ []) e ∙ sym (map-range_with_len_more f 0 j j (omega arith));
    }

pub HasFilled_all : (f : ℕ → ℤ) (count j : ℕ) (out : List ℤ) → HasFilled f count j out → count ≤ j → j ≤ count
    → out ≡ map f (range_with_len 0 count)
HasFilled_all f count j out h p q =
    let long = h.long in
    let e : j ≡ count = omega arith in
    sym (take_all j out (omega arith)) ∙ h.done ∙ ap (λ n. map f (range_with_len 0 n)) e

pub risen : (rise n : ℕ) → rise ≤ n → nat_le rise n ≡ true
risen rise n h = grind (arith, nat_tests)

pub not_falling : (duration decay n : ℕ) → (decay ≡ 0) ⊎ (n + decay < duration)
    → (decay == 0 || nat_lt (n + decay) duration) ≡ true
not_falling duration decay n (inl e) = grind (arith, nat_tests)
not_falling duration decay n (inr h) = grind (arith, nat_tests)

still : (n m decay duration : ℕ) → (decay ≡ 0) ⊎ (n + suc m + decay ≤ duration) → (decay ≡ 0) ⊎ (n + decay < duration)
still n m decay duration (inl e) = inl e
still n m decay duration (inr h) = inr (omega arith)

later : (n m decay duration : ℕ) → (decay ≡ 0) ⊎ (n + suc m + decay ≤ duration)
    → (decay ≡ 0) ⊎ ((n + 1) + m + decay ≤ duration)
later n m decay duration (inl e) = inl e
later n m decay duration (inr h) = inr (omega arith)

-- the same linen at another step
abbrev pub linen_at_step : LinenState → ℕ → LinenState
linen_at_step s m = record { rise = s.rise; duration = s.duration; decay = s.decay; number = m }

-- between rise and decay, the results of a linen are its amplitude times 1
pub linen_level : (x : ℕ → ℤ) (s : LinenState) (j n : ℕ) → IsLevel s n → run linen_step (λ j. x j ∷ []) s j n ≡
    (linen_at_step s (s.number + n), map (λ i. product_of (x i) one) (range_with_len j n))
linen_level x s j zero h = ap (λ m. (linen_at_step s m, [])) (omega arith)
linen_level x s j (suc n) h =
    let room = h.room in let over = h.risen in
    let t : LinenState = linen_at_step s (s.number + 1) in
    let e : number_after (s.number + 1) ≡ s.number + 1 = omega arith in
    let up : up_at s.rise s.number ≡ one =
    ap (λ b. if b then one else floor_div (one *ℤ pos s.number) (pos s.rise)) (risen s.rise s.number over) in
    let down : down_at s.duration s.decay s.number ≡ one =
    ap (λ b. if b then one else clamp (floor_div (one *ℤ (pos s.duration -ℤ pos s.number)) (pos s.decay)))
    (not_falling s.duration s.decay s.number (still s.number n s.decay s.duration h.before)) in
    let value : ℤ = product_of (x j) (product_of (up_at s.rise s.number) (down_at s.duration s.decay s.number)) in
    let known : value ≡ product_of (x j) one =
    ap (λ u. product_of (x j) (product_of u (down_at s.duration s.decay s.number))) up
    ∙ ap (λ w. product_of (x j) (product_of one w)) down in
    let sum : (s.number + 1) + n ≡ s.number + suc n = omega arith in
    let level : IsLevel t n =
    record { room = omega arith; risen = omega arith; before = later s.number n s.decay s.duration h.before } in
    ap (λ m. led value (run linen_step (λ j. x j ∷ []) (linen_at_step s m) (j + 1) n)) e
    ∙ ap (led value) (linen_level x t (j + 1) n level)
    ∙ ap (λ m. (linen_at_step s m, value ∷ map (λ i. product_of (x i) one) (range_with_len (j + 1) n))) sum
    ∙ ap (λ z. (linen_at_step s (s.number + suc n), z ∷ map (λ i. product_of (x i) one) (range_with_len (j + 1) n)))
    known
