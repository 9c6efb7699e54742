-- The tables of a stage, one by one.
use Rattle.std.proofs.Common.{◌≡◌, ◌≢◌, ℕ, zero, suc, ◌+◌, ◌<◌, ◌==◌, ◌||◌, Bool, true, false, List, ◌∷◌, length, take}
use Rattle.std.proofs.Common.{get_or, refl, sym, ◌∙◌, ap, arith, slice_set}
use Rattle.std.proofs.lemmas.Bool.Decides.{nat_tests}
use Rattle.cs_voice.specs.declared.stage.PieceTable.{PieceTable}
use Rattle.cs_life.specs.inner.Marks.{marked}

hit : (m n : ℕ) → m ≡ n → (m == n) ≡ true
hit m n e = grind (arith, nat_tests)

miss : (m n : ℕ) → m ≢ n → (m == n) ≡ false
miss m n e = grind (arith, nat_tests)

-- ---- flags

pub marked_kept : (n : ℕ) (ts : List PieceTable) (ms : List Bool) → length (marked n ts ms) ≡ length ms
marked_kept n (t ∷ ts) (m ∷ ms) = ap suc (marked_kept n ts ms)
marked_kept n _ _ = refl

pub marked_hit : (n : ℕ) (ts : List PieceTable) (ms : List Bool) (k : ℕ) (t : PieceTable) → k < length ts
    → length ms ≡ length ts → t ≡ get_or ts k t → t.number ≡ n
    → slice_set (marked n (take k ts) ms) k true ≡ marked n (take (k + 1) ts) ms
marked_hit n (x ∷ ts) (m ∷ ms) zero t h long is e =
    λ i. (sym (hit n x.number (sym e ∙ ap (λ (y : PieceTable). y.number) is)) i || m) ∷ ms
marked_hit n (x ∷ ts) (m ∷ ms) (suc k) t h long is e =
    let more : suc k + 1 ≡ suc (k + 1) = omega arith in
    ap (λ fs. ((n == x.number) || m) ∷ fs) (marked_hit n ts ms k t (omega arith) (omega arith) is e)
    ∙ ap (λ j. marked n (take j (x ∷ ts)) (m ∷ ms)) (sym more)
marked_hit n _ _ k t h long is e = absurd (omega arith)

pub marked_miss : (n : ℕ) (ts : List PieceTable) (ms : List Bool) (k : ℕ) (t : PieceTable) → k < length ts
    → length ms ≡ length ts → t ≡ get_or ts k t → t.number ≢ n
    → marked n (take k ts) ms ≡ marked n (take (k + 1) ts) ms
marked_miss n (x ∷ ts) (m ∷ ms) zero t h long is e =
    λ i. (sym (miss n x.number (λ same. e (ap (λ (y : PieceTable). y.number) is ∙ sym same))) i || m) ∷ ms
marked_miss n (x ∷ ts) (m ∷ ms) (suc k) t h long is e =
    let more : suc k + 1 ≡ suc (k + 1) = omega arith in
    ap (λ fs. ((n == x.number) || m) ∷ fs) (marked_miss n ts ms k t (omega arith) (omega arith) is e)
    ∙ ap (λ j. marked n (take j (x ∷ ts)) (m ∷ ms)) (sym more)
marked_miss n _ _ k t h long is e = absurd (omega arith)
