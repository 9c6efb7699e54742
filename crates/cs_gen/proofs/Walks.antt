-- A walk along GEN07's segments: from segment to segment, and from place to place.
use Rattle.std.proofs.Common.{◌≡◌, ℕ, zero, suc, ◌+◌, ◌-◌, ◌<◌, ◌≤◌, ◌==◌, nat_lt, true, false, List, map, sum, length}
use Rattle.std.proofs.Common.{ℤ, pos, ◌+ℤ◌, ◌-ℤ◌, ◌*ℤ◌, ◌*◌, refl, sym, ◌∙◌, ap, subst, arith, below_more}
use Rattle.std.specs.List.{range_with_len}
use Rattle.std.proofs.lemmas.List.FromFn.{map-range_with_len_more, length-range_with_len}
use Rattle.std.proofs.lemmas.{List.Sums.position_or_len_is, Bool.Decides.nat_tests, Grind.common_steps}
use Rattle.cs_gen.specs.{Faults.argument, Faults.segments_of, inner.Walk.HasPassed, inner.Walk.HasReached}
use Rattle.cs_base.proofs.Tests.{is_below, isnt_below, number_at}
use Rattle.cs_base.specs.Numbers.{floor_div}
use Rattle.cs_gen.specs.Points.{length_of, begin_of, segment_at, value_of, segments}

sum-snoc : (f : ℕ → ℕ) (k : ℕ) → sum (map f (range_with_len 0 (k + 1))) ≡ sum (map f (range_with_len 0 k)) + f k
sum-snoc f k = let more = map-range_with_len_more f 0 k k (omega arith) in rw more (grind (arith, common_steps))

pub begin_of-more : (args : List ℤ) (k : ℕ) → begin_of args (k + 1) ≡ begin_of args k + length_of args k
unfolding begin_of
begin_of-more args k = sum-snoc (length_of args) k

pub HasPassed-none : (args : List ℤ) (j : ℕ) → HasPassed args j 0 0
unfolding begin_of
HasPassed-none args j = record { begins = refl; real = omega arith; passed = λ i h. absurd (omega arith) }

pub HasPassed-more : (args : List ℤ) (j k begin end : ℕ) → HasPassed args j k begin → k < segments_of args →
    end ≡ begin + length_of args k → end ≤ j → HasPassed args j (k + 1) end
HasPassed-more args j k begin end p real e low =
    let next : end ≡ begin_of args (k + 1) = e ∙ ap (λ b. b + length_of args k) p.begins ∙ sym (begin_of-more args k) in
    record {
      begins = next;
      real = omega arith;
      passed = below_more (λ i. begin_of args (i + 1) ≤ j) k p.passed (omega arith);
    }

pub HasReached-here : (args : List ℤ) (j k begin end : ℕ) → HasPassed args j k begin → end ≡ begin + length_of args k
    → j < end →
    HasReached args j k begin
HasReached-here args j k begin end p e h =
    let next : end ≡ begin_of args (k + 1) = e ∙ ap (λ b. b + length_of args k) p.begins ∙ sym (begin_of-more args k) in
    record { come = p; inside = λ _. omega arith }

-- a segment that has been passed at a place has also been passed at the next place
pub HasPassed-later : (args : List ℤ) (j k begin : ℕ) → HasReached args j k begin → HasPassed args (j + 1) k begin
HasPassed-later args j k begin r =
    record { begins = r.come.begins; real = r.come.real; passed = λ i h. let low = r.come.passed i h in omega arith }

begin_of-none : (args : List ℤ) → begin_of args 0 ≡ 0
unfolding begin_of
begin_of-none args = refl

pub begins_before : (args : List ℤ) (j k begin : ℕ) → HasPassed args j k begin → begin ≤ j
begins_before args j zero begin p = let e : begin ≡ 0 = p.begins ∙ begin_of-none args in omega arith
begins_before args j (suc i) begin p =
    let low : begin_of args (i + 1) ≤ j = p.passed i (omega arith) in
    let e : begin ≡ begin_of args (i + 1) = p.begins ∙ ap (begin_of args) (omega arith) in omega arith

pub ends_after : (args : List ℤ) (j k begin : ℕ) → HasReached args j k begin → k < segments_of args
    → j - begin < length_of args k
ends_after args j k begin r h =
    let far = r.inside h in let e = begin_of-more args k in let b = r.come.begins in
    let low = begins_before args j k begin r.come in omega arith

nonzero : (n : ℕ) → (n ≡ 0 → ⊥) → (n == 0) ≡ false
nonzero n h = grind (arith, nat_tests)

-- the segment that a walk has reached contains the place
pub segment_at-reached : (args : List ℤ) (j k begin : ℕ) → HasReached args j k begin → segment_at args j ≡ k
unfolding segment_at
segment_at-reached args j k begin r =
    let n : ℕ = segments_of args in
    let size : length (range_with_len 0 n) ≡ n = length-range_with_len 0 n in
    let real = r.come.real in
    position_or_len_is (λ i. nat_lt j (begin_of args (i + 1))) (range_with_len 0 n) k 0 (omega arith)
    (λ i h. subst (λ x. nat_lt j (begin_of args (x + 1)) ≡ false) (sym (number_at n i (omega arith)))
    (isnt_below j (begin_of args (i + 1)) (r.come.passed i h)))
    (λ h. subst (λ x. nat_lt j (begin_of args (x + 1)) ≡ true) (sym (number_at n k (omega arith)))
    (is_below j (begin_of args (k + 1)) (r.inside (omega arith))))

-- the point at a place that a walk has reached: on a segment's line, at the end of the last segment, or
-- beyond it
on_segment : (args : List ℤ) (j k begin : ℕ) → HasReached args j k begin → k < segments_of args →
    segments args j ≡ value_of args k +ℤ floor_div ((value_of args (k + 1) -ℤ value_of args k) *ℤ pos (j - begin))
    (pos (length_of args k))
unfolding segments
on_segment args j k begin r h =
    let at = segment_at-reached args j k begin r in
    let test = is_below k (segments_of args) h in
    let b = r.come.begins in
    rw at (rw test (rw (← b) refl))

pub is_on_segment : (args : List ℤ) (j k begin : ℕ) → HasReached args j k begin → k < segments_of args →
    (here next z : ℤ) (length : ℕ) → here ≡ argument args (2 * k) → next ≡ argument args (2 * k + 2)
    → length ≡ length_of args k →
    z ≡ here +ℤ floor_div ((next -ℤ here) *ℤ pos (j - begin)) (pos length) → z ≡ segments args j
is_on_segment args j k begin r h here next z length eh en el ez =
    let twice : 2 * k + 2 ≡ 2 * (k + 1) = omega arith in
    let en' : next ≡ value_of args (k + 1) = en ∙ ap (argument args) twice in
    ez ∙ ap (λ v. v +ℤ floor_div ((next -ℤ v) *ℤ pos (j - begin)) (pos length)) eh
    ∙ ap (λ v. value_of args k +ℤ floor_div ((v -ℤ value_of args k) *ℤ pos (j - begin)) (pos length)) en'
    ∙ ap (λ n. value_of args k +ℤ floor_div ((value_of args (k + 1) -ℤ value_of args k) *ℤ pos (j - begin)) (pos n)) el
    ∙ sym (on_segment args j k begin r h)

pub at_end : (args : List ℤ) (j k begin : ℕ) → HasReached args j k begin → segments_of args ≤ k → j - begin ≡ 0 →
    segments args j ≡ value_of args k
unfolding segments
at_end args j k begin r h z =
    let at = segment_at-reached args j k begin r in
    let test = isnt_below k (segments_of args) h in
    let b = r.come.begins in
    rw at (rw test (rw (← b) (rw z refl)))

pub past_end : (args : List ℤ) (j k begin : ℕ) → HasReached args j k begin → segments_of args ≤ k → (j - begin ≡ 0 → ⊥)
    → segments args j ≡ pos 0
unfolding segments
past_end args j k begin r h z =
    let at = segment_at-reached args j k begin r in
    let test = isnt_below k (segments_of args) h in
    let b = r.come.begins in
    let some = nonzero (j - begin) z in
    rw at (rw test (rw (← b) (rw some refl)))
