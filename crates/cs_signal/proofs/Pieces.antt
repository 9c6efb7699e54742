-- A walk along the segments of a linseg, with the remaining steps at each.
use Rattle.std.proofs.Common.{◌≡◌, ℕ, ◌+◌, ◌-◌, ◌<◌, ◌≤◌, nat_lt, true, false, List, length, ℤ, refl, sym, subst, arith}
use Rattle.std.proofs.Common.{below_more}
use Rattle.std.specs.{List.range_with_len, Prelude.slice_index}
use Rattle.std.proofs.lemmas.{List.take_more, List.Sums.position_or_len_is, Grind.common_steps}
use Rattle.std.proofs.lemmas.List.FromFn.{length-range_with_len}
use Rattle.cs_base.proofs.Tests.{is_below, isnt_below, number_at}
use Rattle.cs_base.specs.Numbers.{clamp}
use Rattle.cs_signal.specs.{Line.part_way, Operands.argument, inner.Pieces.HasPassed, inner.Pieces.IsPlace}
use Rattle.cs_signal.specs.Linseg.{begin_of, piece_at, on_pieces}

pub begin_of-more : (lengths : List ℕ) (k : ℕ) → k < length lengths
    → begin_of lengths (k + 1) ≡ begin_of lengths k + slice_index lengths k
begin_of-more lengths k h = let more = take_more lengths k 0 h in rw more (grind (arith, common_steps))

pub HasPassed-more : (lengths : List ℕ) (n k begin d : ℕ) → HasPassed lengths n k begin → k < length lengths
    → d ≡ slice_index lengths k → d ≤ n - begin → HasPassed lengths n (k + 1) (begin + d)
HasPassed-more lengths n k begin d p h e low =
    let more = begin_of-more lengths k h in
    let here = p.begins in
    let come = p.come in
    record {
      begins = omega arith;
      come = omega arith;
      passed = below_more (λ i. begin_of lengths (i + 1) ≤ n) k p.passed (omega arith);
    }

-- a segment that has been passed at a step has also been passed at a later step
pub HasPassed-later : (lengths : List ℕ) (n m k begin : ℕ) → HasPassed lengths n k begin → n ≤ m
    → HasPassed lengths m k begin
HasPassed-later lengths n m k begin p h =
    let come = p.come in
    record { begins = p.begins; come = omega arith; passed = λ i l. let q = p.passed i l in omega arith }

piece_at-here : (lengths : List ℕ) (n k begin : ℕ) → IsPlace lengths n k begin → piece_at lengths n ≡ k
unfolding piece_at
piece_at-here lengths n k begin p =
    let m : ℕ = length lengths in
    let real = p.real in
    let size : length (range_with_len 0 m) ≡ m = length-range_with_len 0 m in
    position_or_len_is (λ i. nat_lt n (begin_of lengths (i + 1))) (range_with_len 0 m) k 0 (omega arith)
    (λ i h. subst (λ x. nat_lt n (begin_of lengths (x + 1)) ≡ false) (sym (number_at m i (omega arith)))
    (isnt_below n (begin_of lengths (i + 1)) (p.come.passed i (omega arith))))
    (λ h. let h' : k < m = omega arith in let in_it = p.inside h' in
    let more = begin_of-more lengths k h' in let b = p.come.begins in
    subst (λ x. nat_lt n (begin_of lengths (x + 1)) ≡ true) (sym (number_at m k h'))
    (is_below n (begin_of lengths (k + 1)) (omega arith)))

-- a value on the line of a segment
pub on_piece : (values : List ℤ) (lengths : List ℕ) (n k begin d : ℕ) (here next : ℤ) → IsPlace lengths n k begin
    → k < length lengths → d ≡ slice_index lengths k → here ≡ argument values k → next ≡ argument values (k + 1) →
    clamp (part_way here next (n - begin) d) ≡ clamp (on_pieces values lengths n)
unfolding on_pieces
on_piece values lengths n k begin d here next p h ed eh en =
    let at = piece_at-here lengths n k begin p in
    let test = is_below k (length lengths) h in
    let e = p.come.begins in
    rw at (rw test (rw e (rw (← ed) (rw (← eh) (rw (← en) refl)))))

-- the value after the last segment
pub last_value : (values : List ℤ) (lengths : List ℕ) (n k begin : ℕ) (z : ℤ) → IsPlace lengths n k begin
    → length lengths ≤ k → z ≡ argument values k → clamp z ≡ clamp (on_pieces values lengths n)
unfolding on_pieces
last_value values lengths n k begin z p h e =
    let at = piece_at-here lengths n k begin p in
    let test = isnt_below k (length lengths) h in
    rw at (rw test (rw (← e) refl))
