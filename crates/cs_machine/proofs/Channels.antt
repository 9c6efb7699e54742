-- Channels one by one and all together.
use Rattle.std.proofs.Common.{◌≡◌, ℕ, ℤ, pos, ◌+◌, ◌<◌, ◌≤◌, ◌==◌, List, [], length, map, nat_lt, replicate, slice_set}
use Rattle.std.proofs.Common.{slice_index_or, Option, Some, None, IfNone, if◌then◌else◌, refl, sym, ◌∙◌, ap, arith}
use Rattle.std.proofs.Common.{ltb-true}
use Rattle.std.proofs.lemmas.{Bool.eqb-true, List.length-set, List.length-replicate, List.get_or_past, List.ext_get_or}
use Rattle.std.specs.List.{range_with_len}
use Rattle.std.proofs.lemmas.List.FromFn.{get_or-map-range_with_len, length-map-range_with_len}
use Rattle.cs_base.proofs.Tests.{by_test}
use Rattle.cs_ir.specs.Waves.{Wave, both, silence}
use Rattle.cs_machine.specs.Outputs.{ChannelFile, IsGiven, outs, refilled}
use Rattle.cs_machine.specs.{Rows.HasFrames, Rows.row_of, Rows.row_wave, inner.Kept.AreRows}
use Rattle.cs_machine.proofs.Frames.{apart, at_or_past, row_again, zeros_silent}
use Rattle.cs_machine.proofs.Putting.{lengths_kept, set_at_place}
use Rattle.cs_signal.specs.Operands.{argument}
use Rattle.cs_words.specs.declared.sign.BinOp.TheVariants as op

-- a row with the frames of a value that is 0 after its end is that value
pub row_all : (n : ℕ) (w : Wave) (row : List ℤ) → length row ≡ n → HasFrames w row → ((j : ℕ) → n ≤ j → w j ≡ pos 0)
    → row_wave row ≡ w
row_all n w row long frames ends = λ i j. at j i
  where
    at : (j : ℕ) → argument row j ≡ w j
    at j = by_test (nat_lt j n)
        (λ yes. let low : j < n = ltb-true j n yes in frames j (omega (arith, low, long)))
        (λ no. let far : n ≤ j =
        at_or_past j n no in get_or_past row j (pos 0) (omega (arith, far, long)) ∙ sym (ends j far))

past : (n j : ℕ) (row : List ℤ) → length row ≡ n → n ≤ j → argument row j ≡ pos 0
past n j row long far = get_or_past row j (pos 0) (omega (arith, far, long))

pub sum_ends : (n j : ℕ) (x y : List ℤ) → length x ≡ n → length y ≡ n → n ≤ j
    → both op.Add (row_wave x) (row_wave y) j ≡ pos 0
sum_ends n j x y lx ly far =
    ap (λ z. both op.Add (λ i. z) (row_wave y) j) (past n j x lx far)
    ∙ ap (λ z. both op.Add silence (λ i. z) j) (past n j y ly far)

-- a channel's row was replaced by its sum with another: the channel has the sum, and no other has changed
pub gave : (old : ChannelFile) (c : ℕ) (row sum : List ℤ) → AreRows old.ksmps old.rows → c < length old.rows
    → length row ≡ old.ksmps
    → HasFrames (both op.Add (outs old c) (row_wave row)) sum → length sum ≡ length (slice_index_or old.rows c [])
    → IsGiven old c (row_wave row) (record { rows = slice_set old.rows c sum; ksmps = old.ksmps })
gave old c row sum all low long frames same = record {
  outs = λ i n. at n i;
  channels = length-set old.rows c sum;
  ksmps = refl;
}
  where
    is_sum : row_wave sum ≡ both op.Add (outs old c) (row_wave row)
    is_sum = row_all old.ksmps (both op.Add (outs old c) (row_wave row)) sum (same ∙ all c low) frames
        (λ j far. sum_ends old.ksmps j (slice_index_or old.rows c []) row (all c low) long far)

    at : (n : ℕ) → row_wave (slice_index_or (slice_set old.rows c sum) n [])
        ≡ (if n == c then both op.Add (outs old n) (row_wave row) else outs old n)
    at n = by_test (n == c) (λ yes. ap row_wave (set_at_place old.rows c sum [] low n
        ∙ ap (λ b. if b then sum else slice_index_or old.rows n []) yes)
        ∙ is_sum ∙ ap (λ m. both op.Add (outs old m) (row_wave row)) (sym (eqb-true n c yes))
        ∙ sym (ap (λ b. if b then both op.Add (outs old n) (row_wave row) else outs old n) yes))
        (λ no. ap row_wave (set_at_place old.rows c sum [] low n
        ∙ ap (λ b. if b then sum else slice_index_or old.rows n []) no)
        ∙ sym (ap (λ b. if b then both op.Add (outs old n) (row_wave row) else outs old n) no))

-- a channel to which nothing was written is silent
pub zeros_at : (rows : List (List ℤ)) (c n : ℕ) → slice_index_or rows c [] ≡ replicate n (pos 0)
    → row_wave (slice_index_or rows c []) ≡ silence
zeros_at rows c n e = ap row_wave e ∙ zeros_silent n

-- one more channel was cleared: those before it are silent, and each keeps its length
pub cleared_more : (rows : List (List ℤ)) (n k : ℕ) (row : List ℤ) → k < length rows → row ≡ replicate n (pos 0)
    → ((m : ℕ) → m < k → row_wave (slice_index_or rows m []) ≡ silence) → (m : ℕ) → m < k + 1
    → row_wave (slice_index_or (slice_set rows k row) m []) ≡ silence
cleared_more rows n k row low is done m h = ap row_wave (set_at_place rows k row [] low m) ∙ by_test (m == k)
    (λ yes. ap (λ b. row_wave (if b then row else slice_index_or rows m [])) yes ∙ ap row_wave is ∙ zeros_silent n)
    (λ no. ap (λ b. row_wave (if b then row else slice_index_or rows m [])) no
    ∙ done m (let a = apart m k no in omega (arith, h, a)))

pub all_cleared : (rows : List (List ℤ)) (k : ℕ) → length rows ≤ k
    → ((m : ℕ) → m < k → row_wave (slice_index_or rows m []) ≡ silence)
    → (m : ℕ) → row_wave (slice_index_or rows m []) ≡ silence
all_cleared rows k far done m = by_test (nat_lt m k) (λ yes. done m (ltb-true m k yes))
    (λ no. let past : k ≤ m = at_or_past m k no in ap row_wave (get_or_past rows m [] (omega (arith, far, past))))

pub length_kept : (rows : List (List ℤ)) (n k : ℕ) (row : List ℤ) → k < length rows
    → row ≡ replicate (length (slice_index_or rows k [])) (pos 0) → AreRows n rows → AreRows n (slice_set rows k row)
length_kept rows n k row low is all m less =
    lengths_kept rows k row low (ap length is ∙ length-replicate (length (slice_index_or rows k [])) (pos 0)) m
    ∙ all m (let e : length (slice_set rows k row) ≡ length rows = length-set rows k row in omega (arith, e, less))

-- an implication inside of IfNone
pub if_none : {A P Q : Type 0} (o : Option A) → (P → Q) → IfNone o P → IfNone o Q
if_none None f h = f h
if_none (Some x) f h = h

-- channels are determined by their values
pub refilled_again : (f : ChannelFile) → AreRows f.ksmps f.rows → refilled f (outs f) ≡ f
refilled_again f all = λ t. record f { rows = same t }
  where
    long : length (map (λ n. row_of f.ksmps (outs f n)) (range_with_len 0 (length f.rows))) ≡ length f.rows
    long = length-map-range_with_len (λ n. row_of f.ksmps (outs f n)) 0 (length f.rows)

    same : map (λ n. row_of f.ksmps (outs f n)) (range_with_len 0 (length f.rows)) ≡ f.rows
    same = ext_get_or [] (map (λ n. row_of f.ksmps (outs f n)) (range_with_len 0 (length f.rows))) f.rows long
        (λ n low. get_or-map-range_with_len (λ m. row_of f.ksmps (outs f m)) 0 (length f.rows) n n []
        (omega (arith, low, long)) (omega arith)
        ∙ row_again f.ksmps (slice_index_or f.rows n []) (all n (omega (arith, low, long))))
