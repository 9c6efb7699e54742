-- Registers, units and channels that were filled with fitting values have these values.
use Rattle.std.proofs.Common.{◌≡◌, ℕ, ℤ, pos, ◌<◌, ◌≤◌, Bool, true, false, List, [], length, map, nat_lt}
use Rattle.std.proofs.Common.{slice_index_or, Option, None, if◌then◌else◌, refl, sym, ◌∙◌, ap, subst, ltb-true}
use Rattle.std.proofs.Common.{zero-add}
use Rattle.std.specs.List.{range_with_len}
use Rattle.std.proofs.lemmas.List.{get_or_past}
use Rattle.std.proofs.lemmas.List.FromFn.{get_or-map-range_with_len, length-map-range_with_len}
use Rattle.cs_base.proofs.Tests.{by_test}
use Rattle.cs_ir.specs.{Validity.has_register, Waves.Wave, Waves.constant, Waves.held, Waves.silence, Registers.at_kind}
use Rattle.cs_ir.specs.{Registers.rate_at, Registers.rate_of, declared.register.Kind.Kind, declared.register.Reg.Reg}
use Rattle.cs_machine.specs.{Outputs.ChannelFile, Outputs.outs, Outputs.refilled, Rows.row_of, Rows.row_wave}
use Rattle.cs_machine.specs.Registers.{RegisterFile, filled, register, values}
use Rattle.cs_machine.proofs.Frames.{at_or_past, held_row, row_held}
use Rattle.cs_signal.specs.Operands.{argument}
use Rattle.cs_base.specs.declared.resource.Rate.TheVariants as rate
use Rattle.cs_ir.specs.declared.register.Kind.TheVariants as kind

module _ {A : Type 0} (f : ℕ → A) (n : ℕ) where
  -- element m of the list of a function's values
  pub listed_at : (d : A) (m : ℕ) → m < n → slice_index_or (map f (range_with_len 0 n)) m d ≡ f m
  listed_at d m low = get_or-map-range_with_len f 0 n m m d low (zero-add m)

  pub listed_past : (d : A) (m : ℕ) → n ≤ m → slice_index_or (map f (range_with_len 0 n)) m d ≡ d
  listed_past d m far = get_or_past (map f (range_with_len 0 n)) m d
      (subst (λ k. k ≤ m) (sym (length-map-range_with_len f 0 n)) far)

  -- the same for each m, if the function's values after the list are d
  pub listed_all : (d : A) (m : ℕ) → (nat_lt m n ≡ false → f m ≡ d)
      → slice_index_or (map f (range_with_len 0 n)) m d ≡ f m
  listed_all d m past = by_test (nat_lt m n)
      (λ yes. listed_at d m (ltb-true m n yes))
      (λ no. listed_past d m (at_or_past m n no) ∙ sym (past no))

-- a row of a value's frames is that value as it is held for a cycle
pub row_is_held : (n : ℕ) (w : Wave) → row_wave (row_of n w) ≡ held n rate.Audio w
row_is_held n w = row_held n w (row_of n w) (length-map-range_with_len w 0 n)
    (λ j low. listed_at w n (pos 0) j (subst (λ k. j < k) (length-map-range_with_len w 0 n) low))

module _ (f : RegisterFile) (w : Reg → Wave) where
  -- the registers of a kind that hold one number; the audio registers of a kind
  ones : Kind → List ℤ
  ones k = map (λ m. w (register k m) 0) (range_with_len 0 (at_kind f.counts.registers k))

  rows : Kind → List (List ℤ)
  rows k = map (λ m. row_of f.ksmps (w (register k m))) (range_with_len 0 (at_kind f.counts.registers k))

  module _ (past : (q : Reg) → has_register f.counts q ≡ false → w q ≡ silence) where
    one_has : (k : Kind) (n : ℕ) → constant (w (register k n) 0) ≡ w (register k n)
        → constant (argument (ones k) n) ≡ w (register k n)
    unfolding ones
    one_has k n keeps = ap constant (listed_all (λ m. w (register k m) 0) (at_kind f.counts.registers k) (pos 0) n
        (λ no. ap (λ v. v 0) (past (register k n) no))) ∙ keeps

    row_has : (k : Kind) (n : ℕ) → held f.ksmps rate.Audio (w (register k n)) ≡ w (register k n)
        → row_wave (slice_index_or (rows k) n []) ≡ w (register k n)
    unfolding rows
    row_has k n keeps = by_test (nat_lt n (at_kind f.counts.registers k))
        (λ yes. ap row_wave (listed_at (λ m. row_of f.ksmps (w (register k m))) (at_kind f.counts.registers k) [] n
        (ltb-true n (at_kind f.counts.registers k) yes))
        ∙ row_is_held f.ksmps (w (register k n)) ∙ keeps)
        (λ no. ap row_wave (listed_past (λ m. row_of f.ksmps (w (register k m))) (at_kind f.counts.registers k) [] n
        (at_or_past n (at_kind f.counts.registers k) no)) ∙ sym (past (register k n) no))

  one_past : (k : Kind) (n : ℕ) → nat_lt n (at_kind f.counts.registers k) ≡ false
      → constant (argument (ones k) n) ≡ silence
  unfolding ones
  one_past k n past = ap constant (listed_past (λ m. w (register k m) 0) (at_kind f.counts.registers k) (pos 0) n
      (at_or_past n (at_kind f.counts.registers k) past))

  row_past : (k : Kind) (n : ℕ) → nat_lt n (at_kind f.counts.registers k) ≡ false
      → row_wave (slice_index_or (rows k) n []) ≡ silence
  unfolding rows
  row_past k n past = ap row_wave (listed_past (λ m. row_of f.ksmps (w (register k m)))
      (at_kind f.counts.registers k) [] n (at_or_past n (at_kind f.counts.registers k) past))

-- registers that were filled with fitting values have these values
pub filled_has : (f : RegisterFile) (w : Reg → Wave) → ((q : Reg) → has_register f.counts q ≡ false → w q ≡ silence)
    → ((q : Reg) → held f.ksmps (rate_at q) (w q) ≡ w q) → values (filled f w) ≡ w
unfolding ones rows
filled_has f w past keeps = λ t q. at q.kind q.offset t
  where
    at : (k : Kind) (n : ℕ) → values (filled f w) (register k n) ≡ w (register k n)
    at kind.LocalAudio n = row_has f w past kind.LocalAudio n (keeps (register kind.LocalAudio n))
    at kind.TemporaryAudio n = row_has f w past kind.TemporaryAudio n (keeps (register kind.TemporaryAudio n))
    at k n = one_has f w past k n (keeps (register k n))

-- registers that were filled are silent outside their counts
pub filled_past : (f : RegisterFile) (w : Reg → Wave) (q : Reg) → has_register f.counts q ≡ false
    → values (filled f w) q ≡ silence
unfolding ones rows
filled_past f w q past = at q.kind q.offset past
  where
    at : (k : Kind) (n : ℕ) → has_register f.counts (register k n) ≡ false
        → values (filled f w) (register k n) ≡ silence
    at kind.LocalAudio n past = row_past f w kind.LocalAudio n past
    at kind.TemporaryAudio n past = row_past f w kind.TemporaryAudio n past
    at k n past = one_past f w k n past

zero_held : (b : Bool) → (if b then pos 0 else pos 0) ≡ pos 0
zero_held true = refl
zero_held false = refl

silence_held : (n : ℕ) → held n rate.Audio silence ≡ silence
silence_held n = λ t j. zero_held (nat_lt j n) t

rows_held : (rows : List (List ℤ)) (n k m : ℕ) → length rows ≡ k
    → ((m : ℕ) → m < k → length (slice_index_or rows m []) ≡ n)
    → held n rate.Audio (row_wave (slice_index_or rows m [])) ≡ row_wave (slice_index_or rows m [])
rows_held rows n k m long all = by_test (nat_lt m k)
    (λ yes. held_row n (slice_index_or rows m []) (all m (ltb-true m k yes)))
    (λ no. let far : k ≤ m = at_or_past m k no in
    let e : slice_index_or rows m [] ≡ [] = get_or_past rows m [] (subst (λ k. k ≤ m) (sym long) far) in
    ap (λ row. held n rate.Audio (row_wave row)) e ∙ silence_held n ∙ sym (ap row_wave e))

-- each row of a list that a function defines has n numbers
listed_rows : (f : ℕ → Wave) (n k : ℕ) (m : ℕ) → m < k
    → length (slice_index_or (map (λ c. row_of n (f c)) (range_with_len 0 k)) m []) ≡ n
listed_rows f n k m low = ap length (listed_at (λ c. row_of n (f c)) k [] m low) ∙ length-map-range_with_len (f m) 0 n

pub filled_keeps : (f : RegisterFile) (w : Reg → Wave) (q : Reg)
    → held f.ksmps (rate_at q) (values (filled f w) q) ≡ values (filled f w) q
unfolding rows
filled_keeps f w q = at q.kind q.offset
  where
    row : (k : Kind) (n : ℕ) → held f.ksmps rate.Audio (row_wave (slice_index_or (rows f w k) n []))
        ≡ row_wave (slice_index_or (rows f w k) n [])
    row k n = rows_held
        (map (λ m. row_of f.ksmps (w (register k m))) (range_with_len 0 (at_kind f.counts.registers k))) f.ksmps
        (at_kind f.counts.registers k) n
        (length-map-range_with_len (λ m. row_of f.ksmps (w (register k m))) 0 (at_kind f.counts.registers k))
        (listed_rows (λ m. w (register k m)) f.ksmps (at_kind f.counts.registers k))

    at : (k : Kind) (n : ℕ) → held f.ksmps (rate_of k) (values (filled f w) (register k n))
        ≡ values (filled f w) (register k n)
    at kind.LocalAudio n = row kind.LocalAudio n
    at kind.TemporaryAudio n = row kind.TemporaryAudio n
    at k n = refl

-- channels that were filled with fitting values have these values
pub refilled_has : (f : ChannelFile) (w : ℕ → Wave) → ((c : ℕ) → nat_lt c (length f.rows) ≡ false → w c ≡ silence)
    → ((c : ℕ) → held f.ksmps rate.Audio (w c) ≡ w c) → outs (refilled f w) ≡ w
refilled_has f w past keeps = λ t c. at c t
  where
    at : (c : ℕ) → outs (refilled f w) c ≡ w c
    at c = by_test (nat_lt c (length f.rows))
        (λ yes. ap row_wave (listed_at (λ m. row_of f.ksmps (w m)) (length f.rows) [] c
        (ltb-true c (length f.rows) yes))
        ∙ row_is_held f.ksmps (w c) ∙ keeps c)
        (λ no. ap row_wave (listed_past (λ m. row_of f.ksmps (w m)) (length f.rows) [] c
        (at_or_past c (length f.rows) no)) ∙ sym (past c no))

pub refilled_past : (f : ChannelFile) (w : ℕ → Wave) (c : ℕ) → nat_lt c (length f.rows) ≡ false
    → outs (refilled f w) c ≡ silence
refilled_past f w c past =
    ap row_wave (listed_past (λ m. row_of f.ksmps (w m)) (length f.rows) [] c (at_or_past c (length f.rows) past))

pub refilled_keeps : (f : ChannelFile) (w : ℕ → Wave) (c : ℕ)
    → held f.ksmps rate.Audio (outs (refilled f w) c) ≡ outs (refilled f w) c
refilled_keeps f w c = rows_held (map (λ m. row_of f.ksmps (w m)) (range_with_len 0 (length f.rows))) f.ksmps
    (length f.rows) c
    (length-map-range_with_len (λ m. row_of f.ksmps (w m)) 0 (length f.rows)) (listed_rows w f.ksmps (length f.rows))

pub refilled_long : (f : ChannelFile) (w : ℕ → Wave) → length (refilled f w).rows ≡ length f.rows
refilled_long f w = length-map-range_with_len (λ m. row_of f.ksmps (w m)) 0 (length f.rows)

-- units that were filled have the given values, if those after the last are None
pub units_have : {A : Type 0} (w : ℕ → Option A) (n : ℕ) → ((u : ℕ) → nat_lt u n ≡ false → w u ≡ None)
    → (λ u. slice_index_or (map w (range_with_len 0 n)) u None) ≡ w
units_have w n past = λ t u. listed_all w n None u (past u) t
