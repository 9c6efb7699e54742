-- Each unit returns its formula.
use Rattle.std.proofs.Common.{◌≡◌, ℕ, zero, suc, ◌+◌, ◌≤◌, ◌<◌, ◌⊎◌, inl, inr, ⊎_elim, subst, append_assoc, ◌==◌, Bool}
use Rattle.std.proofs.Common.{true, false, cond, if◌then◌else◌, Option, Some, ◌-◌, ◌%◌, List, [], ◌∷◌, ◌++◌, length}
use Rattle.std.proofs.Common.{reverse, drop, replicate, ℤ, pos, fold, find, refl, ap, sym, ◌∙◌, arith}
use Rattle.cs_base.specs.Numbers.{sum_of, difference_of, product_of, clamp}
use Rattle.cs_signal.proofs.Histories.{last_of-more, reverse_one, signal_one, now_one, ago_one, length_one}
use Rattle.cs_signal.proofs.{Histories.last_number_one, Histories.number_one, Ramps.not_zero}
use Rattle.cs_signal.specs.Biquad.{biquad_of, biquad_start, biquad_step, biquad_after, results, BiquadStands}
use Rattle.cs_signal.specs.Delay.{delay_length, delay_of, delay_start, delay_step, DelayStands}
use Rattle.cs_signal.specs.{Diff.diff_of, Diff.diff_start, Diff.diff_step, Diff.DiffStands, History.signal, History.ago}
use Rattle.cs_signal.specs.{History.now, Integ.integ_of, Integ.integ_start, Integ.integ_step, Integ.IntegStands}
use Rattle.cs_signal.specs.{Linseg.LinsegStands, Operands.argument, Pace.number_of_last, Pace.steps_of, Steps.IsUnit}
use Rattle.cs_signal.specs.Interp.{interp_of, interp_start, interp_step, InterpStands}
use Rattle.cs_signal.specs.Line.{line_of, line_start, line_step, line_at, part_way, way_of, LineStands}
use Rattle.cs_signal.specs.Linen.{linen_of, linen_start, linen_step, linen_at, up_at, down_at, LinenStands}
use Rattle.cs_signal.specs.Linseg.{linseg_of, linseg_start, linseg_step, linseg_at, on_pieces, values_of, lengths_of}
use Rattle.cs_signal.specs.Plain.{plain_of, plain_start, plain_step, PlainStands}
use Rattle.cs_signal.specs.Samphold.{samphold_of, samphold_start, samphold_step, is_open, value_or_zero, SampholdStands}
use Rattle.std.proofs.lemmas.List.Sums.{fold-append}
use Rattle.std.proofs.lemmas.List.{append-nil, get_or-drop, get_or-reverse, reverse-append, length-append}
use Rattle.std.proofs.lemmas.List.{length-replicate, length-map, drop-append-le, drop-drop}
use Rattle.std.proofs.Math.Nat.{zero-mod, mod-lt, mod-add-mod, mod-zero, mod_self, mod-eq_of_lt, eq-or-lt_of_le}

pub line_law : IsUnit line_of line_start line_step LineStands
line_law = record {
  starts = λ rate pace init. refl;
  answers = λ s rate pace init before x e. ap (λ s. (line_step s x).1) e
      ∙ ap (λ n. clamp (part_way (argument init 0) (argument init 2) n (way_of rate pace init)))
      (sym (last_number_one before x));
  goes_on = λ s rate pace init before x e. ap (λ s. (line_step s x).0) e
      ∙ ap (line_at rate pace init) (number_one before x);
}

pub linseg_law : IsUnit linseg_of linseg_start linseg_step LinsegStands
linseg_law = record {
  starts = λ rate pace init. refl;
  answers = λ s rate pace init before x e. ap (λ s. (linseg_step s x).1) e
      ∙ ap (λ n. clamp (on_pieces (values_of init) (lengths_of rate pace init) n)) (sym (last_number_one before x));
  goes_on = λ s rate pace init before x e. ap (λ s. (linseg_step s x).0) e
      ∙ ap (linseg_at rate pace init) (number_one before x);
}

pub linen_law : IsUnit linen_of linen_start linen_step LinenStands
linen_law = record {
  starts = λ rate pace init. refl;
  answers = λ s rate pace init before x e.
      let up = up_at (steps_of rate pace (argument init 0)) in
      let down = down_at (steps_of rate pace (argument init 1)) (steps_of rate pace (argument init 2)) in
      ap (λ s. (linen_step s x).1) e
      ∙ ap (λ n. product_of (argument x 0) (product_of (up n) (down n))) (sym (last_number_one before x))
      ∙ ap (λ z. product_of z (product_of (up (number_of_last (before ++ x ∷ [])))
      (down (number_of_last (before ++ x ∷ []))))) (sym (now_one 0 before x));
  goes_on = λ s rate pace init before x e. ap (λ s. (linen_step s x).0) e
      ∙ ap (linen_at rate pace init) (number_one before x);
}

integ_one : (s : ℤ) (before : List (List ℤ)) (x : List ℤ) → s ≡ fold sum_of (pos 0) (signal 0 before) →
    sum_of s (argument x 0) ≡ fold sum_of (pos 0) (signal 0 (before ++ x ∷ []))
integ_one s before x e = ap (λ z. sum_of z (argument x 0)) e
    ∙ sym (fold-append sum_of (pos 0) (signal 0 before) (argument x 0 ∷ []))
    ∙ ap (fold sum_of (pos 0)) (sym (signal_one 0 before x))

pub integ_law : IsUnit integ_of integ_start integ_step IntegStands
integ_law = record {
  starts = λ rate pace init. refl;
  answers = λ s rate pace init before x e. integ_one s before x e;
  goes_on = λ s rate pace init before x e. integ_one s before x e;
}

pub diff_law : IsUnit diff_of diff_start diff_step DiffStands
diff_law = record {
  starts = λ rate pace init. refl;
  answers = λ s rate pace init before x e. ap (difference_of (argument x 0)) (e ∙ sym (ago_one 0 0 before x))
      ∙ ap (λ z. difference_of z (ago 0 1 (before ++ x ∷ []))) (sym (now_one 0 before x));
  goes_on = λ s rate pace init before x e. sym (now_one 0 before x);
}

-- a unit without state returns its formula by definition
pub plain_law : (value : List ℤ → ℤ) → IsUnit (plain_of value) plain_start (plain_step value) PlainStands
plain_law value = record {
  starts = λ rate pace init. tt;
  answers = λ s rate pace init before x e. ap value (sym (last_of-more before x));
  goes_on = λ s rate pace init before x e. tt;
}

held_on : (gate : Bool) (last : ℤ) (x : List ℤ) (before : Option (List ℤ)) → last ≡ value_or_zero before →
    (if gate then argument x 0 else last) ≡ value_or_zero (cond gate (Some x) before)
held_on true last x before e = refl
held_on false last x before e = e

samphold_one : (last : ℤ) (before : List (List ℤ)) (x : List ℤ) → last ≡ value_or_zero (find is_open (reverse before)) →
    (if is_open x then argument x 0 else last) ≡ value_or_zero (find is_open (reverse (before ++ x ∷ [])))
samphold_one last before x e = held_on (is_open x) last x (find is_open (reverse before)) e
    ∙ ap (λ xs. value_or_zero (find is_open xs)) (sym (reverse_one before x))

pub samphold_law : IsUnit samphold_of samphold_start samphold_step SampholdStands
samphold_law = record {
  starts = λ rate pace init. refl;
  answers = λ s rate pace init before x e. samphold_one s before x e;
  goes_on = λ s rate pace init before x e. samphold_one s before x e;
}

pub biquad_law : IsUnit biquad_of biquad_start biquad_step BiquadStands
biquad_law = record {
  starts = λ rate pace init. refl;
  answers = λ s rate pace init before x e. ap (λ s. (biquad_step s x).1) e
      ∙ ap (λ xs. argument (results xs) 0) (sym (reverse_one before x));
  goes_on = λ s rate pace init before x e. ap (λ s. (biquad_step s x).0) e
      ∙ ap (λ xs. biquad_after (signal 0 xs) (results xs)) (sym (reverse_one before x));
}

zeros : (m k : ℕ) → argument (replicate m (pos 0)) k ≡ pos 0
zeros zero k = refl
zeros (suc m) zero = refl
zeros (suc m) (suc k) = zeros m k

one_behind : (m : ℕ) (z : ℤ) → replicate m z ++ z ∷ [] ≡ z ∷ replicate m z
one_behind zero z = refl
one_behind (suc m) z = ap (λ l. z ∷ l) (one_behind m z)

reverse_same : (m : ℕ) (z : ℤ) → reverse (replicate m z) ≡ replicate m z
reverse_same zero z = refl
reverse_same (suc m) z =
    reverse-append (z ∷ []) (replicate m z) ∙ ap (λ l. l ++ z ∷ []) (reverse_same m z) ∙ one_behind m z

-- zeros appended to a list don't change any of its arguments, since a missing argument is 0
behind : (m k : ℕ) (xs : List ℤ) → argument (xs ++ replicate m (pos 0)) k ≡ argument xs k
behind m k [] = zeros m k
behind m zero (x ∷ xs) = refl
behind m (suc k) (x ∷ xs) = behind m k xs

-- the oldest value of the line is the input of m steps ago
oldest : (m : ℕ) (xs : List ℤ) → argument (replicate (suc m) (pos 0) ++ xs) (length xs) ≡ argument (reverse xs) m
oldest m xs =
    let all = replicate (suc m) (pos 0) ++ xs in
    let long : length all ≡ suc m + length xs =
    length-append (replicate (suc m) (pos 0)) xs ∙ ap (λ n. n + length xs) (length-replicate (suc m) (pos 0)) in
    let place : length all - 1 - m ≡ length xs = omega arith in
    ap (argument all) (sym place) ∙ sym (get_or-reverse all m (pos 0) (omega arith))
    ∙ ap (λ l. argument l m) (reverse-append (replicate (suc m) (pos 0)) xs)
    ∙ ap (λ l. argument (reverse xs ++ l) m) (reverse_same (suc m) (pos 0)) ∙ behind (suc m) m (reverse xs)

delay_answers : (d : ℕ) (before : List (List ℤ)) (x : List ℤ) → 1 ≤ d →
    argument (drop (length before) (replicate d (pos 0) ++ signal 0 before)) 0 ≡ ago 0 d (before ++ x ∷ [])
delay_answers zero before x h = absurd (omega arith)
delay_answers (suc m) before x h =
    get_or-drop (length before) (replicate (suc m) (pos 0) ++ signal 0 before) 0 (pos 0)
    ∙ ap (argument (replicate (suc m) (pos 0) ++ signal 0 before))
    (omega arith ∙ sym (length-map before (λ inputs. argument inputs 0))) ∙ oldest m (signal 0 before)
    ∙ sym (ago_one 0 m before x)

delay_goes_on : (d : ℕ) (before : List (List ℤ)) (x : List ℤ) → 1 ≤ d →
    drop 1 (drop (length before) (replicate d (pos 0) ++ signal 0 before)) ++ argument x 0 ∷ []
    ≡ drop (length (before ++ x ∷ [])) (replicate d (pos 0) ++ signal 0 (before ++ x ∷ []))
delay_goes_on d before x h =
    let all = replicate d (pos 0) ++ signal 0 before in
    let n : ℕ = length before in
    let long : length all ≡ d + n = length-append (replicate d (pos 0)) (signal 0 before)
    ∙ ap (λ k. k + length (signal 0 before)) (length-replicate d (pos 0))
    ∙ ap (λ k. d + k) (length-map before (λ inputs. argument inputs 0)) in
    ap (λ l. l ++ argument x 0 ∷ []) (drop-drop 1 n all)
    ∙ sym (drop-append-le (n + 1) all (argument x 0 ∷ []) (omega arith))
    ∙ ap (drop (n + 1)) (append_assoc (replicate d (pos 0)) (signal 0 before) (argument x 0 ∷ [])
    ∙ ap (λ l. replicate d (pos 0) ++ l) (sym (signal_one 0 before x)))
    ∙ ap (λ k. drop k (replicate d (pos 0) ++ signal 0 (before ++ x ∷ []))) (omega arith ∙ sym (length_one before x))

pub delay_law : IsUnit delay_of delay_start delay_step DelayStands
delay_law = record {
  starts = λ rate pace init. sym (append-nil (delay_start rate pace init));
  answers = λ s rate pace init before x e. ap (λ l. argument l 0) e
      ∙ delay_answers (delay_length pace (argument init 0)) before x (omega arith);
  goes_on = λ s rate pace init before x e. ap (λ l. drop 1 l ++ argument x 0 ∷ []) e
      ∙ delay_goes_on (delay_length pace (argument init 0)) before x (omega arith);
}

below : (n m : ℕ) → n % suc m + 1 ≤ suc m
below n m = let h : n % suc m < suc m = mod-lt n (omega arith) in omega arith

one_more_or_none : (n k : ℕ) → ((n % k + 1) % k ≡ n % k + 1) ⊎ ((n % k + 1) % k ≡ 0)
one_more_or_none n zero = inl (mod-zero (n % 0 + 1))
one_more_or_none n (suc m) = ⊎_elim
    (λ e. inr (ap (λ a. a % suc m) e ∙ mod_self (suc m)))
    (λ h. inl (mod-eq_of_lt h)) (eq-or-lt_of_le (below n m))

kept_or_new : (next sample : ℕ) (before : List (List ℤ)) (x : List ℤ) → (next ≡ sample + 1) ⊎ (next ≡ 0) →
    (if next == 0 then argument x 0 else ago 0 sample before) ≡ ago 0 next (before ++ x ∷ [])
kept_or_new zero sample before x e = sym (now_one 0 before x)
kept_or_new (suc n) sample before x (inl e) = ap (λ b. if b then argument x 0 else ago 0 sample before) (not_zero n)
    ∙ ap (λ m. ago 0 m before) (omega arith) ∙ sym (ago_one 0 n before x)
kept_or_new (suc n) sample before x (inr e) = absurd (omega arith)

interp_sample : (k ksmps sample : ℕ) (before : List (List ℤ)) (x : List ℤ) → k ≡ ksmps → sample ≡ length before % ksmps
    → (sample + 1) % k ≡ length (before ++ x ∷ []) % ksmps
interp_sample k ksmps sample before x ek es =
    ap (λ m. (sample + 1) % m) ek ∙ ap (λ j. (j + 1) % ksmps) es ∙ mod-add-mod (length before) ksmps 1
    ∙ ap (λ n. n % ksmps) (omega arith ∙ sym (length_one before x))

interp_answers : (k ksmps sample : ℕ) (b : ℤ) (before : List (List ℤ)) (x : List ℤ) → k ≡ ksmps
    → sample ≡ length before % ksmps → b ≡ ago 0 sample before → clamp (part_way b (argument x 0) (sample + 1) k) ≡
    clamp (part_way (ago 0 ((length (before ++ x ∷ []) - 1) % ksmps + 1) (before ++ x ∷ [])) (now 0 (before ++ x ∷ []))
    ((length (before ++ x ∷ []) - 1) % ksmps + 1) ksmps)
interp_answers k ksmps sample b before x ek es eb =
    let all = before ++ x ∷ [] in
    let long = length_one before x in
    let place : sample ≡ (length all - 1) % ksmps = es ∙ ap (λ n. n % ksmps) (omega arith) in
    let next : sample + 1 ≡ suc sample = omega arith in
    ap (λ m. clamp (part_way b (argument x 0) (sample + 1) m)) ek
    ∙ ap (λ z. clamp (part_way z (argument x 0) (sample + 1) ksmps))
    (eb ∙ sym (ago_one 0 sample before x) ∙ ap (λ m. ago 0 m all) (sym next))
    ∙ ap (λ z. clamp (part_way (ago 0 (sample + 1) all) z (sample + 1) ksmps)) (sym (now_one 0 before x))
    ∙ ap (λ j. clamp (part_way (ago 0 (j + 1) all) (now 0 all) (j + 1) ksmps)) place

interp_before : (k ksmps sample : ℕ) (b : ℤ) (before : List (List ℤ)) (x : List ℤ) → k ≡ ksmps
    → sample ≡ length before % ksmps → b ≡ ago 0 sample before →
    (if (sample + 1) % k == 0 then argument x 0 else b) ≡ ago 0 ((sample + 1) % k) (before ++ x ∷ [])
interp_before k ksmps sample b before x ek es eb =
    let here = one_more_or_none (length before) ksmps in
    let known : ((sample + 1) % k ≡ sample + 1) ⊎ ((sample + 1) % k ≡ 0) =
    subst (λ m. ((sample + 1) % m ≡ sample + 1) ⊎ ((sample + 1) % m ≡ 0)) (sym ek)
    (subst (λ j. ((j + 1) % ksmps ≡ j + 1) ⊎ ((j + 1) % ksmps ≡ 0)) (sym es) here) in
    ap (λ z. if (sample + 1) % k == 0 then argument x 0 else z) eb
    ∙ kept_or_new ((sample + 1) % k) sample before x known

pub interp_law : IsUnit interp_of interp_start interp_step InterpStands
interp_law = record {
  starts = λ rate pace init. record { ksmps = refl; sample = sym (zero-mod pace.ksmps); before = refl };
  answers = λ s rate pace init before x h. interp_answers s.ksmps pace.ksmps s.sample s.before before x h.ksmps h.sample
      h.before;
  goes_on = λ s rate pace init before x h. record {
    ksmps = h.ksmps;
    sample = interp_sample s.ksmps pace.ksmps s.sample before x h.ksmps h.sample;
    before = interp_before s.ksmps pace.ksmps s.sample s.before before x h.ksmps h.sample h.before;
  };
}
