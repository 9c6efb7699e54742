-- The invariant of a loop over the frames of a cycle: at its beginning, after one more frame, and at its end.
use Rattle.std.proofs.Common.{◌≡◌, ℕ, zero, suc, ◌+◌, ◌-◌, ◌<◌, ◌≤◌, List, [], ◌∷◌, ◌++◌, length, take, drop, ℤ, pos}
use Rattle.std.proofs.Common.{set, get_or, ap, sym, ◌∙◌, subst, arith, append_assoc, length-append, length-drop}
use Rattle.std.proofs.Math.Seq.{take-append_seam}
use Rattle.std.proofs.lemmas.List.{length-take-le, take_more_set, length-set, take_all, append-nil, get_or_default}
use Rattle.cs_signal.specs.{Operands.argument, Steps.run, Walk.HasRun}

-- a run with one result before its own results
abbrev pub led : {S : Type 0} → ℤ → S × List ℤ → S × List ℤ
led value r = (r.0, value ∷ r.1)

pub HasRun_none : {S : Type 0} (step : S → List ℤ → S × ℤ) (at : ℕ → List ℤ) (first : S) (n : ℕ) (out : List ℤ)
    → length out ≡ n → HasRun step at first n 0 first out
HasRun_none step at first n out long =
    let whole : n - 0 ≡ n = omega arith in
    record { long = long; rest = sym (ap (λ k. ((run step at first 0 k).0, (run step at first 0 k).1)) whole) }

pub HasRun_more : {S : Type 0} (step : S → List ℤ → S × ℤ) (at : ℕ → List ℤ) (first : S) (n j : ℕ) (s : S)
    (out : List ℤ) → HasRun step at first n j s out → j < n →
    HasRun step at first n (j + 1) (step s (at j)).0 (set out j (step s (at j)).1)
HasRun_more step at first n j s out h below =
    let here = step s (at j) in
    let m : ℕ = n - (j + 1) in
    let e : n - j ≡ suc m = omega arith in
    let long = h.long in
    let kept : take (j + 1) (set out j here.1) ≡ take j out ++ here.1 ∷ [] = take_more_set out j here.1 (omega arith) in
    record {
      long = length-set out j here.1 ∙ long;
      rest = h.rest ∙ ap (λ k. ((run step at s j k).0, take j out ++ (run step at s j k).1)) e
          ∙ ap (λ xs. ((run step at here.0 (j + 1) m).0, xs))
          (sym (append_assoc (take j out) (here.1 ∷ []) (run step at here.0 (j + 1) m).1)
          ∙ ap (λ xs. xs ++ (run step at here.0 (j + 1) m).1) (sym kept));
    }

pub HasRun_step : {S : Type 0} (step : S → List ℤ → S × ℤ) (at : ℕ → List ℤ) (first : S) (n j : ℕ) (s t : S)
    (out : List ℤ) (y : ℤ) →
    HasRun step at first n j s out → j < n → (t, y) ≡ step s (at j) → HasRun step at first n (j + 1) t (set out j y)
HasRun_step step at first n j s t out y h below e =
    subst (λ r. HasRun step at first n (j + 1) r.0 (set out j r.1)) (sym e)
    (HasRun_more step at first n j s out h below)

-- some steps followed by others
run_on : {S : Type 0} (step : S → List ℤ → S × ℤ) (at : ℕ → List ℤ) (s : S) (j m k : ℕ) → run step at s j (m + k) ≡ (
  (run step at (run step at s j m).0 (j + m) k).0,
  (run step at s j m).1 ++ (run step at (run step at s j m).0 (j + m) k).1,
)
run_on step at s j zero k =
    let n : ℕ = 0 + k in
    let e : n ≡ k = omega arith in
    let i : j ≡ j + 0 = omega arith in
    ap (λ m. ((run step at s j m).0, (run step at s j m).1)) e
    ∙ ap (λ i. ((run step at s i k).0, (run step at s i k).1)) i
run_on step at s j (suc m) k =
    let here = step s (at j) in
    let first = run step at here.0 (j + 1) m in
    let sum : suc m + k ≡ suc (m + k) = omega arith in
    ap (λ n. ((run step at s j n).0, (run step at s j n).1)) sum ∙ ap (led here.1) (run_on step at here.0 (j + 1) m k)
    ∙ ap (λ i. ((run step at first.0 i k).0, here.1 ∷ (first.1 ++ (run step at first.0 i k).1))) (omega arith)

-- many more steps, whose results were written after the first j
pub HasRun_many : {S : Type 0} (step : S → List ℤ → S × ℤ) (at : ℕ → List ℤ) (first : S) (n j m : ℕ) (s t : S)
    (out results : List ℤ) → HasRun step at first n j s out → j + m ≤ n → length results ≡ m
    → run step at s j m ≡ (t, results) → HasRun step at first n (j + m) t (take j out ++ (results ++ drop (j + m) out))
HasRun_many step at first n j m s t out results h room size e =
    let k : ℕ = n - (j + m) in
    let all : List ℤ = take j out ++ results in
    let behind : List ℤ = drop (j + m) out in
    let long = h.long in
    let done : length (take j out) ≡ j = length-take-le j out (omega arith) in
    let come : length all ≡ j + m = length-append (take j out) results ∙ omega (arith, done, size) in
    let left = length-drop (j + m) out in
    let whole : take j out ++ (results ++ behind) ≡ all ++ behind = sym (append_assoc (take j out) results behind) in
    let parts : n - j ≡ m + k = omega arith in
    record {
      long = ap length whole ∙ length-append all behind ∙ omega (arith, come, left, long);
      rest = h.rest ∙ ap (λ i. ((run step at s j i).0, take j out ++ (run step at s j i).1)) parts
          ∙ ap (λ r. (r.0, take j out ++ r.1)) (run_on step at s j m k)
          ∙ ap (λ r. ((run step at r.0 (j + m) k).0, take j out ++ (r.1 ++ (run step at r.0 (j + m) k).1))) e
          ∙ ap (λ l. ((run step at t (j + m) k).0, l))
          (sym (append_assoc (take j out) results (run step at t (j + m) k).1))
          ∙ ap (λ l. ((run step at t (j + m) k).0, l ++ (run step at t (j + m) k).1))
          (sym (ap (take (j + m)) whole ∙ ap (λ i. take i (all ++ behind)) (sym come) ∙ take-append_seam all behind));
    }

pub HasRun_end : {S : Type 0} (step : S → List ℤ → S × ℤ) (at : ℕ → List ℤ) (first : S) (n j : ℕ) (s : S) (out : List ℤ)
    → HasRun step at first n j s out → n ≤ j → (s, out) ≡ run step at first 0 n
HasRun_end step at first n j s out h e =
    let long = h.long in
    let none : n - j ≡ 0 = omega arith in
    sym (h.rest ∙ ap (λ k. ((run step at s j k).0, take j out ++ (run step at s j k).1)) none
    ∙ ap (λ xs. (s, xs)) (append-nil (take j out) ∙ take_all j out (omega arith)))

-- a value that is read from a row is the row's value at this frame
pub read : (values : List ℤ) (j : ℕ) (z : ℤ) → z ≡ get_or values j z → j < length values → z ≡ argument values j
read values j z e h = e ∙ get_or_default values j z (pos 0) h
