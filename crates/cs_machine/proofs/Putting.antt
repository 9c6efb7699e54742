-- One register of its kind was written.
use Rattle.std.proofs.Common.{◌≡◌, ℕ, ℤ, pos, zero, suc, ◌<◌, ◌≤◌, ◌+◌, ◌-◌, ◌==◌, ◌&&◌, Bool, true, false, List, []}
use Rattle.std.proofs.Common.{◌∷◌, length, map, replicate, nat_lt, slice_set, slice_index_or, if◌then◌else◌, refl, sym}
use Rattle.std.proofs.Common.{◌∙◌, ap, subst, arith, ltb-true}
use Rattle.std.specs.List.{range_with_len}
use Rattle.std.proofs.lemmas.{Bool.eqb-true, Bool.Decides.nat_tests}
use Rattle.std.proofs.lemmas.List.{get_or-set_same, get_or-set_other, get_or_past, get_or-map, length-map, map-set}
use Rattle.std.proofs.lemmas.List.{length-set, length-replicate, get_or-replicate, ext_get_or}
use Rattle.std.proofs.lemmas.List.FromFn.{get_or-map-range_with_len, length-map-range_with_len}
use Rattle.cs_base.specs.{Rates.is_audio, declared.resource.Rate.Rate}
use Rattle.cs_base.proofs.Tests.{by_test}
use Rattle.cs_ir.specs.{Machine.put, Validity.has_register, Values.holds, declared.register.Counts.Counts}
use Rattle.cs_ir.specs.{declared.register.Kind.Kind, declared.register.Reg.Reg}
use Rattle.cs_ir.specs.Registers.{at_kind, kind_number, rate_at, rate_of}
use Rattle.cs_ir.specs.Waves.{Wave, chosen, held, silence, constant}
use Rattle.cs_machine.specs.Registers.{RegisterFile, IsWritten, filled, held_at, held_kinds, one_of, register, regs_of}
use Rattle.cs_machine.specs.Registers.{row_in, sound_kinds, values}
use Rattle.cs_machine.specs.{Rows.HasFrames, Rows.row_wave, Rows.row_of, inner.Kept.AreKept, inner.Kept.AreRows}
use Rattle.cs_machine.specs.inner.Kept.{zeros_of}
use Rattle.cs_machine.proofs.Frames.{apart, held_row, row_held, zeros_silent, row_again}
use Rattle.cs_signal.specs.Operands.{argument}
use Rattle.cs_base.specs.declared.resource.Rate.TheVariants as rate
use Rattle.cs_ir.specs.declared.register.Kind.TheVariants as kind

-- an element of a list that was set at an index
pub set_at_place : {A : Type 0} (xs : List A) (n : ℕ) (x d : A) → n < length xs → (m : ℕ)
    → slice_index_or (slice_set xs n x) m d ≡ (if m == n then x else slice_index_or xs m d)
set_at_place xs n x d low m = by_test (m == n)
    (λ yes. ap (λ k. slice_index_or (slice_set xs n x) k d) (eqb-true m n yes) ∙ get_or-set_same xs n x d low
    ∙ sym (ap (λ b. if b then x else slice_index_or xs m d) yes))
    (λ no. get_or-set_other xs n m x d (apart m n no) ∙ sym (ap (λ b. if b then x else slice_index_or xs m d) no))

pub through : {A B : Type 0} (f : A → B) (b : Bool) (x y : A) → f (if b then x else y) ≡ (if b then f x else f y)
through f true x y = refl
through f false x y = refl

-- an element of a list of lists, one of which was set at an index
pub set_in : {A : Type 0} (rows : List (List A)) (k n : ℕ) (x d : A) → k < length rows
    → n < length (slice_index_or rows k []) → (j m : ℕ)
    → slice_index_or (slice_index_or (slice_set rows k (slice_set (slice_index_or rows k []) n x)) j []) m d
    ≡ (if j == k && m == n then x else slice_index_or (slice_index_or rows j []) m d)
set_in rows k n x d row low j m =
    let own = slice_index_or rows k [] in
    let list = set_at_place rows k (slice_set own n x) [] row j in
    by_test (j == k)
    (λ yes. let same : j ≡ k = eqb-true j k yes in
    ap (λ l. slice_index_or l m d) (list ∙ ap (λ b. if b then slice_set own n x else slice_index_or rows j []) yes)
    ∙ set_at_place own n x d low m
    ∙ ap (λ i. if m == n then x else slice_index_or (slice_index_or rows i []) m d) (sym same)
    ∙ ap (λ b. if b && m == n then x else slice_index_or (slice_index_or rows j []) m d) (sym yes))
    (λ no. ap (λ l. slice_index_or l m d)
    (list ∙ ap (λ b. if b then slice_set own n x else slice_index_or rows j []) no)
    ∙ ap (λ b. if b && m == n then x else slice_index_or (slice_index_or rows j []) m d) (sym no))

-- the kinds that hold one number are the first five
pub held_kind : (k : Kind) → is_audio (rate_of k) ≡ false → kind_number k < 5
held_kind kind.LocalAudio h = absurd (cc)
held_kind kind.TemporaryAudio h = absurd (cc)
held_kind k h = omega arith

pub sound_kind : (k : Kind) → is_audio (rate_of k) ≡ true → kind_number k ≡ kind_number k - 5 + 5
sound_kind kind.LocalAudio h = refl
sound_kind kind.TemporaryAudio h = refl
sound_kind k h = absurd (cc)

pub sound_number : (k : Kind) → is_audio (rate_of k) ≡ true → kind_number k - 5 < 2
sound_number kind.LocalAudio h = omega arith
sound_number kind.TemporaryAudio h = omega arith
sound_number k h = absurd (cc)

-- ---- a number was written

module _ (ones : List (List ℤ)) (rows : List (List (List ℤ))) (q : Reg) (z : ℤ) where
  abbrev new_ones : List (List ℤ)
  new_ones = slice_set ones (kind_number q.kind) (slice_set (slice_index_or ones (kind_number q.kind) []) q.offset z)

  pub put_held : is_audio (rate_at q) ≡ false → kind_number q.kind < length ones
      → q.offset < length (slice_index_or ones (kind_number q.kind) [])
      → regs_of new_ones rows ≡ put (regs_of ones rows) q (constant z)
  put_held slow kind_there low = λ i p. at p.kind p.offset i
    where
      k : ℕ
      k = kind_number q.kind

      first : k < 5
      first = held_kind q.kind slow

      one : (j m : ℕ) → one_of new_ones j m ≡ (if j == k && m == q.offset then constant z else one_of ones j m)
      one j m = ap constant (set_in ones k q.offset z (pos 0) kind_there low j m)
          ∙ through constant (j == k && m == q.offset) z (argument (slice_index_or ones j []) m)

      other : (j m : ℕ) → 5 ≤ j → row_in rows (j - 5) m
          ≡ (if j == k && m == q.offset then constant z else row_in rows (j - 5) m)
      other j m far =
          let no : (j == k) ≡ false = grind (arith, nat_tests) in
          sym (ap (λ b. if b && m == q.offset then constant z else row_in rows (j - 5) m) no)

      at : (j : Kind) (m : ℕ) → held_at new_ones rows j m ≡ put (regs_of ones rows) q (constant z) (register j m)
      at kind.LocalAudio m = other 5 m (omega arith)
      at kind.TemporaryAudio m = other 6 m (omega arith)
      at j m = one (kind_number j) m

-- ---- a row was written

module _ (ones : List (List ℤ)) (rows : List (List (List ℤ))) (q : Reg) (row : List ℤ) where
  abbrev new_rows : List (List (List ℤ))
  new_rows = slice_set rows (kind_number q.kind - 5)
      (slice_set (slice_index_or rows (kind_number q.kind - 5) []) q.offset row)

  pub put_sound : is_audio (rate_at q) ≡ true → kind_number q.kind - 5 < length rows
      → q.offset < length (slice_index_or rows (kind_number q.kind - 5) [])
      → regs_of ones new_rows ≡ put (regs_of ones rows) q (row_wave row)
  put_sound sound kind_there low = λ i p. at p.kind p.offset i
    where
      k : ℕ
      k = kind_number q.kind - 5

      behind : kind_number q.kind ≡ k + 5
      behind = sound_kind q.kind sound

      one : (j m : ℕ) → row_in new_rows j m
          ≡ (if j + 5 == kind_number q.kind && m == q.offset then row_wave row else row_in rows j m)
      one j m =
          let same : (j == k) ≡ (j + 5 == kind_number q.kind) = grind (arith, nat_tests, behind) in
          ap row_wave (set_in rows k q.offset row [] kind_there low j m)
          ∙ through row_wave (j == k && m == q.offset) row (slice_index_or (slice_index_or rows j []) m [])
          ∙ ap (λ b. if b && m == q.offset then row_wave row else row_in rows j m) same

      other : (j m : ℕ) → j < 5 → one_of ones j m
          ≡ (if j == kind_number q.kind && m == q.offset then row_wave row else one_of ones j m)
      other j m near =
          let no : (j == kind_number q.kind) ≡ false = grind (arith, nat_tests, behind) in
          sym (ap (λ b. if b && m == q.offset then row_wave row else one_of ones j m) no)

      at : (j : Kind) (m : ℕ) → held_at ones new_rows j m ≡ put (regs_of ones rows) q (row_wave row) (register j m)
      at kind.LocalAudio m = one 0 m
      at kind.TemporaryAudio m = one 1 m
      at j m = other (kind_number j) m (omega arith)

-- ---- new registers

pub zeros_held : (n m : ℕ) → constant (argument (replicate n (pos 0)) m) ≡ silence
zeros_held n m = ap constant (ap (λ f. f m) (zeros_silent n))

pub zeros_sound : (n ksmps m : ℕ) → row_wave (slice_index_or (replicate n (replicate ksmps (pos 0))) m []) ≡ silence
zeros_sound n ksmps m = by_test (nat_lt m n)
    (λ yes. let low : m < n = grind (arith, nat_tests) in
    ap row_wave (get_or-replicate n m (replicate ksmps (pos 0)) [] low) ∙ zeros_silent ksmps)
    (λ no. let far : n ≤ m = grind (arith, nat_tests) in
    ap row_wave (get_or_past (replicate n (replicate ksmps (pos 0))) m []
    (let e : length (replicate n (replicate ksmps (pos 0))) ≡ n =
    length-replicate n (replicate ksmps (pos 0)) in omega (arith, far, e))))

abbrev pub rows_of_zeros : Counts → ℕ → List Kind → List (List (List ℤ))
rows_of_zeros counts ksmps kinds =
    map (λ k. replicate (at_kind counts.registers k) (replicate ksmps (pos 0))) kinds

-- zeros in every register are silence
pub new_silent : (counts : Counts) (ksmps : ℕ)
    → regs_of (zeros_of counts held_kinds) (rows_of_zeros counts ksmps sound_kinds) ≡ (λ q. silence)
new_silent counts ksmps = λ t q. at q.kind q.offset t
  where
    at : (k : Kind) (m : ℕ)
        → held_at (zeros_of counts held_kinds) (rows_of_zeros counts ksmps sound_kinds) k m ≡ silence
    at kind.LocalAudio m = zeros_sound (at_kind counts.registers kind.LocalAudio) ksmps m
    at kind.TemporaryAudio m = zeros_sound (at_kind counts.registers kind.TemporaryAudio) ksmps m
    at k m = zeros_held (at_kind counts.registers k) m

-- ---- the numbers of registers stay the same

-- the lists of a list keep their lengths if one is replaced by another of its length
pub lengths_kept : {A : Type 0} (rows : List (List A)) (k : ℕ) (own : List A) → k < length rows
    → length own ≡ length (slice_index_or rows k []) → (j : ℕ)
    → length (slice_index_or (slice_set rows k own) j []) ≡ length (slice_index_or rows j [])
lengths_kept rows k own there long j =
    ap length (set_at_place rows k own [] there j) ∙ through length (j == k) own (slice_index_or rows j [])
    ∙ by_test (j == k) (λ yes. ap (λ b. if b then length own else length (slice_index_or rows j [])) yes ∙ long
    ∙ ap (λ i. length (slice_index_or rows i [])) (sym (eqb-true j k yes)))
    (λ no. ap (λ b. if b then length own else length (slice_index_or rows j [])) no)

pub held_kept : (ones : List (List ℤ)) (rows : List (List (List ℤ))) (counts : Counts) (ksmps : ℕ) (q : Reg) (z : ℤ)
    → AreKept ones rows counts ksmps → is_audio (rate_at q) ≡ false
    → AreKept (slice_set ones (kind_number q.kind) (slice_set (slice_index_or ones (kind_number q.kind) []) q.offset z))
    rows counts ksmps
held_kept ones rows counts ksmps q z kept slow = record {
  kinds = length-set ones k own ∙ kept.kinds;
  sound_kinds = kept.sound_kinds;
  held = λ j s. lengths_kept ones k own there long (kind_number j) ∙ kept.held j s;
  sounds = kept.sounds;
  long = kept.long;
}
  where
    k : ℕ
    k = kind_number q.kind

    own : List ℤ
    own = slice_set (slice_index_or ones k []) q.offset z

    there : k < length ones
    there = let low = held_kind q.kind slow in omega (arith, low, kept.kinds)

    long : length own ≡ length (slice_index_or ones k [])
    long = length-set (slice_index_or ones k []) q.offset z

pub sound_kept : (ones : List (List ℤ)) (rows : List (List (List ℤ))) (counts : Counts) (ksmps : ℕ) (q : Reg)
    (row : List ℤ) → AreKept ones rows counts ksmps → is_audio (rate_at q) ≡ true → length row ≡ ksmps
    → q.offset < length (slice_index_or rows (kind_number q.kind - 5) [])
    → AreKept ones (slice_set rows (kind_number q.kind - 5)
    (slice_set (slice_index_or rows (kind_number q.kind - 5) []) q.offset row)) counts ksmps
sound_kept ones rows counts ksmps q row kept sound full low = record {
  kinds = kept.kinds;
  sound_kinds = length-set rows k own ∙ kept.sound_kinds;
  held = kept.held;
  sounds = λ j s. lengths_kept rows k own there long (kind_number j - 5) ∙ kept.sounds j s;
  long = λ j m less. ap length (set_in rows k q.offset row [] there low j m)
      ∙ through length (j == k && m == q.offset) row (slice_index_or (slice_index_or rows j []) m [])
      ∙ either (j == k && m == q.offset) (slice_index_or (slice_index_or rows j []) m [])
      (kept.long j m (let e = lengths_kept rows k own there long j in omega (arith, e, less)));
}
  where
    k : ℕ
    k = kind_number q.kind - 5

    own : List (List ℤ)
    own = slice_set (slice_index_or rows k []) q.offset row

    there : k < length rows
    there = let low = sound_number q.kind sound in omega (arith, low, kept.sound_kinds)

    long : length own ≡ length (slice_index_or rows k [])
    long = length-set (slice_index_or rows k []) q.offset row

    either : (b : Bool) (other : List ℤ) → length other ≡ ksmps → (if b then length row else length other) ≡ ksmps
    either true other o = full
    either false other o = o

pub new_kept : (counts : Counts) (ksmps : ℕ)
    → AreKept (zeros_of counts held_kinds) (rows_of_zeros counts ksmps sound_kinds) counts ksmps
new_kept counts ksmps = record {
  kinds = refl;
  sound_kinds = refl;
  held = ones;
  sounds = rows;
  long = long;
}
  where
    n : Kind → ℕ
    n k = at_kind counts.registers k

    ones : (k : Kind) → is_audio (rate_of k) ≡ false
        → length (slice_index_or (zeros_of counts held_kinds) (kind_number k) []) ≡ n k
    ones kind.LocalAudio s = absurd (cc)
    ones kind.TemporaryAudio s = absurd (cc)
    ones k s = length-replicate (n k) (pos 0)

    rows : (k : Kind) → is_audio (rate_of k) ≡ true
        → length (slice_index_or (rows_of_zeros counts ksmps sound_kinds) (kind_number k - 5) []) ≡ n k
    rows kind.LocalAudio s = length-replicate (n kind.LocalAudio) (replicate ksmps (pos 0))
    rows kind.TemporaryAudio s = length-replicate (n kind.TemporaryAudio) (replicate ksmps (pos 0))
    rows k s = absurd (cc)

    all_long : (count : ℕ) → AreRows ksmps (replicate count (replicate ksmps (pos 0)))
    all_long count m low =
        let e = length-replicate count (replicate ksmps (pos 0)) in
        ap length (get_or-replicate count m (replicate ksmps (pos 0)) [] (omega (arith, e, low)))
        ∙ length-replicate ksmps (pos 0)

    long : (k : ℕ) → AreRows ksmps (slice_index_or (rows_of_zeros counts ksmps sound_kinds) k [])
    long zero m low = all_long (n kind.LocalAudio) m low
    long (suc zero) m low = all_long (n kind.TemporaryAudio) m low
    long (suc (suc k)) m low = absurd (omega (arith, low))

-- rows and numbers that were made for the registers of each kind
pub five_made : (counts : Counts) (a b c d e : List ℤ) → a ≡ replicate (at_kind counts.registers kind.LocalInit) (pos 0)
    → b ≡ replicate (at_kind counts.registers kind.LocalControl) (pos 0)
    → c ≡ replicate (at_kind counts.registers kind.Kept) (pos 0)
    → d ≡ replicate (at_kind counts.registers kind.TemporaryInit) (pos 0)
    → e ≡ replicate (at_kind counts.registers kind.TemporaryControl) (pos 0)
    → a ∷ b ∷ c ∷ d ∷ e ∷ [] ≡ zeros_of counts held_kinds
five_made counts a b c d e x y z v w = λ i. x i ∷ y i ∷ z i ∷ v i ∷ w i ∷ []

pub two_made : (counts : Counts) (ksmps : ℕ) (a b : List (List ℤ))
    → a ≡ replicate (at_kind counts.registers kind.LocalAudio) (replicate ksmps (pos 0))
    → b ≡ replicate (at_kind counts.registers kind.TemporaryAudio) (replicate ksmps (pos 0))
    → a ∷ b ∷ [] ≡ rows_of_zeros counts ksmps sound_kinds
two_made counts ksmps a b x y = λ i. x i ∷ y i ∷ []

pub made_silent : (counts : Counts) (ksmps : ℕ) (ones : List (List ℤ)) (rows : List (List (List ℤ)))
    → ones ≡ zeros_of counts held_kinds → rows ≡ rows_of_zeros counts ksmps sound_kinds
    → regs_of ones rows ≡ (λ q. silence)
made_silent counts ksmps ones rows e h = (λ i. regs_of (e i) (h i)) ∙ new_silent counts ksmps

pub made_kept : (counts : Counts) (ksmps : ℕ) (ones : List (List ℤ)) (rows : List (List (List ℤ)))
    → ones ≡ zeros_of counts held_kinds → rows ≡ rows_of_zeros counts ksmps sound_kinds → AreKept ones rows counts ksmps
made_kept counts ksmps ones rows e h =
    subst (λ o. AreKept o rows counts ksmps) (sym e)
    (subst (λ r. AreKept (zeros_of counts held_kinds) r counts ksmps) (sym h) (new_kept counts ksmps))

-- ---- registers are determined by their values

two : {A : Type 0} (xs : List A) (d : A) → length xs ≡ 2 → slice_index_or xs 0 d ∷ slice_index_or xs 1 d ∷ [] ≡ xs
two (a ∷ b ∷ []) d h = refl
two xs d h = absurd (omega (arith, h))

five : {A : Type 0} (xs : List A) (d : A) → length xs ≡ 5
    → slice_index_or xs 0 d ∷ slice_index_or xs 1 d ∷ slice_index_or xs 2 d ∷ slice_index_or xs 3 d
    ∷ slice_index_or xs 4 d ∷ [] ≡ xs
five (a ∷ b ∷ c ∷ e ∷ f ∷ []) d h = refl
five xs d h = absurd (omega (arith, h))

module _ (f : RegisterFile) (h : AreKept f.held f.sounds f.counts f.ksmps) where
  ones_again : (k : Kind) → is_audio (rate_of k) ≡ false
      → map (λ m. argument (slice_index_or f.held (kind_number k) []) m)
      (range_with_len 0 (at_kind f.counts.registers k)) ≡ slice_index_or f.held (kind_number k) []
  ones_again k slow =
      row_again (at_kind f.counts.registers k) (slice_index_or f.held (kind_number k) []) (h.held k slow)

  rows_again : (k : Kind) → is_audio (rate_of k) ≡ true
      → map (λ m. row_of f.ksmps (row_in f.sounds (kind_number k - 5) m))
      (range_with_len 0 (at_kind f.counts.registers k)) ≡ slice_index_or f.sounds (kind_number k - 5) []
  rows_again k sound =
      let n : ℕ = at_kind f.counts.registers k in
      let own : List (List ℤ) = slice_index_or f.sounds (kind_number k - 5) [] in
      let row : ℕ → List ℤ = λ m. row_of f.ksmps (row_in f.sounds (kind_number k - 5) m) in
      let long : length (map row (range_with_len 0 n)) ≡ n = length-map-range_with_len row 0 n in
      let has : length own ≡ n = h.sounds k sound in
      ext_get_or [] (map row (range_with_len 0 n)) own (long ∙ sym has)
      (λ m low. get_or-map-range_with_len row 0 n m m [] (omega (arith, low, long)) (omega arith)
      ∙ row_again f.ksmps (slice_index_or own m []) (h.long (kind_number k - 5) m (omega (arith, low, long, has))))

  pub filled_again : filled f (values f) ≡ f
  filled_again = λ t. record f { held = helds t; sounds = all t }
    where
      helds : map (λ k. map (λ n. values f (register k n) 0) (range_with_len 0 (at_kind f.counts.registers k)))
          held_kinds ≡ f.held
      helds = (λ t. ones_again kind.LocalInit refl t ∷ ones_again kind.LocalControl refl t
          ∷ ones_again kind.Kept refl t ∷ ones_again kind.TemporaryInit refl t
          ∷ ones_again kind.TemporaryControl refl t ∷ []) ∙ five f.held [] h.kinds

      all : map (λ k. map (λ n. row_of f.ksmps (values f (register k n)))
          (range_with_len 0 (at_kind f.counts.registers k))) sound_kinds ≡ f.sounds
      all = (λ t. rows_again kind.LocalAudio refl t ∷ rows_again kind.TemporaryAudio refl t ∷ [])
          ∙ two f.sounds [] h.sound_kinds

-- ---- one register was written, in the terms of the contract

pub wrote_held : (f : RegisterFile) (q : Reg) (z : ℤ) → is_audio (rate_at q) ≡ false
    → kind_number q.kind < length f.held → q.offset < length (slice_index_or f.held (kind_number q.kind) [])
    → IsWritten f q (constant z) (record f {
      held = slice_set f.held (kind_number q.kind)
          (slice_set (slice_index_or f.held (kind_number q.kind) []) q.offset z);
    })
wrote_held f q z slow there low = record {
  values = put_held f.held f.sounds q z slow there low ∙ ap (put (values f) q) (constant_held (rate_at q) slow);
  counts = refl;
  ksmps = refl;
}
  where
    constant_held : (r : Rate) → is_audio r ≡ false → constant z ≡ held f.ksmps r (constant z)
    constant_held rate.Audio s = absurd (cc)
    constant_held r s = refl

pub wrote_sound : (f : RegisterFile) (q : Reg) (row : List ℤ) → is_audio (rate_at q) ≡ true → length row ≡ f.ksmps
    → kind_number q.kind - 5 < length f.sounds → q.offset < length (slice_index_or f.sounds (kind_number q.kind - 5) [])
    → IsWritten f q (row_wave row) (record f {
      sounds = slice_set f.sounds (kind_number q.kind - 5)
          (slice_set (slice_index_or f.sounds (kind_number q.kind - 5) []) q.offset row);
    })
wrote_sound f q row sound long there low = record {
  values = put_sound f.held f.sounds q row sound there low ∙ ap (put (values f) q) (row_is_held (rate_at q) sound);
  counts = refl;
  ksmps = refl;
}
  where
    row_is_held : (r : Rate) → is_audio r ≡ true → row_wave row ≡ held f.ksmps r (row_wave row)
    row_is_held rate.Audio s = sym (held_row f.ksmps row long)
    row_is_held r s = absurd (cc)

-- a row with a value's frames was swapped in: the register holds the value
pub wrote_frames : (f g : RegisterFile) (q : Reg) (w : Wave) (row : List ℤ) → is_audio (rate_at q) ≡ true
    → length row ≡ f.ksmps → HasFrames w row → IsWritten f q (row_wave row) g → IsWritten f q w g
wrote_frames f g q w row sound long frames wrote = record {
  values = wrote.values ∙ ap (put (values f) q) (as_held (rate_at q) sound);
  counts = wrote.counts;
  ksmps = wrote.ksmps;
}
  where
    as_held : (r : Rate) → is_audio r ≡ true → held f.ksmps r (row_wave row) ≡ held f.ksmps r w
    as_held rate.Audio s = held_row f.ksmps row long ∙ row_held f.ksmps w row long frames
    as_held r s = absurd (cc)

-- a held register has the same value at each frame
pub held_still : (f : RegisterFile) (q : Reg) → is_audio (rate_at q) ≡ false → (j : ℕ) → values f q j ≡ values f q 0
held_still f q slow j = at q.kind slow
  where
    at : (k : Kind) → is_audio (rate_of k) ≡ false
        → held_at f.held f.sounds k q.offset j ≡ held_at f.held f.sounds k q.offset 0
    at kind.LocalAudio s = absurd (cc)
    at kind.TemporaryAudio s = absurd (cc)
    at k s = refl

-- if a condition is held, one of the two values is chosen throughout
pub chosen_first : (c w v : Wave) → ((j : ℕ) → c j ≡ c 0) → holds (c 0) ≡ true → w ≡ chosen c w v
chosen_first c w v still it = λ i j. sym (ap (λ b. if b then w j else v j) (ap holds (still j) ∙ it)) i

pub chosen_second : (c w v : Wave) → ((j : ℕ) → c j ≡ c 0) → holds (c 0) ≡ false → v ≡ chosen c w v
chosen_second c w v still it = λ i j. sym (ap (λ b. if b then w j else v j) (ap holds (still j) ∙ it)) i

-- at a held rate the first frame of a value is all of it
pub wrote_first : (f g : RegisterFile) (q : Reg) (w : Wave) (z : ℤ) → is_audio (rate_at q) ≡ false → z ≡ w 0
    → IsWritten f q (constant z) g → IsWritten f q w g
wrote_first f g q w z slow first wrote = record {
  values = wrote.values ∙ ap (put (values f) q) (held_first (rate_at q) slow);
  counts = wrote.counts;
  ksmps = wrote.ksmps;
}
  where
    held_first : (r : Rate) → is_audio r ≡ false → held f.ksmps r (constant z) ≡ held f.ksmps r w
    held_first rate.Audio s = absurd (cc)
    held_first r s = λ i j. first i

-- ---- indexes of registers that exist

pub held_low : (ones : List (List ℤ)) (rows : List (List (List ℤ))) (counts : Counts) (ksmps : ℕ) (q : Reg)
    → AreKept ones rows counts ksmps → has_register counts q ≡ true → is_audio (rate_at q) ≡ false
    → q.offset < length (slice_index_or ones (kind_number q.kind) [])
held_low ones rows counts ksmps q kept there slow =
    let low : q.offset < at_kind counts.registers q.kind = ltb-true _ _ there in
    omega (arith, low, kept.held q.kind slow)

pub sound_low : (ones : List (List ℤ)) (rows : List (List (List ℤ))) (counts : Counts) (ksmps : ℕ) (q : Reg)
    → AreKept ones rows counts ksmps → has_register counts q ≡ true → is_audio (rate_at q) ≡ true
    → q.offset < length (slice_index_or rows (kind_number q.kind - 5) [])
sound_low ones rows counts ksmps q kept there sound =
    let low : q.offset < at_kind counts.registers q.kind = ltb-true _ _ there in
    omega (arith, low, kept.sounds q.kind sound)

-- ---- the same for the lists in memory, each of which is in a vector

-- a list of lists after one of them was set in its vector
set_in_memory : {A B : Type 0} (f : A → List B) (xs : List A) (k j n : ℕ) (x new : A) (z : B) → k ≡ j → k < length xs
    → f new ≡ slice_set (f (slice_index_or xs k x)) n z
    → map f (slice_set xs k new) ≡ slice_set (map f xs) j (slice_set (slice_index_or (map f xs) j []) n z)
set_in_memory f xs k j n x new z same low is =
    map-set f xs k new ∙ ap (slice_set (map f xs) k) (is ∙ ap (λ l. slice_set l n z) (sym (get_or-map f xs k x [] low)))
    ∙ ap (λ i. slice_set (map f xs) i (slice_set (slice_index_or (map f xs) i []) n z)) same

-- a list in memory is as long as the list that it represents
low_in_memory : {A B : Type 0} (f : A → List B) (xs : List A) (k j n : ℕ) (x : A) → k ≡ j → k < length xs
    → n < length (slice_index_or (map f xs) j []) → n < length (f (slice_index_or xs k x))
low_in_memory f xs k j n x same low less =
    subst (λ l. n < length l) (ap (λ i. slice_index_or (map f xs) i []) (sym same) ∙ get_or-map f xs k x [] low) less

there_inside : (inside old : Counts) (q : Reg) → inside ≡ old → has_register old q ≡ true → has_register inside q ≡ true
there_inside inside old q same there = ap (λ c. has_register c q) same ∙ there

module _ {A : Type 0} (f : A → List ℤ) (ones : List A) (rows : List (List (List ℤ))) (counts : Counts) (ksmps : ℕ)
    (old : RegisterFile) (q : Reg) (k : ℕ)
    (same : record { held = map f ones; sounds = rows; counts = counts; ksmps = ksmps } ≡ old)
    (kept : AreKept (map f ones) rows counts ksmps) (there : has_register old.counts q ≡ true)
    (slow : is_audio (rate_at q) ≡ false) (is : k ≡ kind_number q.kind) where
  held_there : has_register counts q ≡ true
  held_there = there_inside counts old.counts q (ap (λ r. r.counts) same) there

  held_row_there : k < length ones
  held_row_there =
      let low = held_kind q.kind slow in
      let long = length-map ones f in omega (arith, is, low, long, kept.kinds)

  pub held_place : (x : A) → q.offset < length (f (slice_index_or ones k x))
  held_place x = low_in_memory f ones k (kind_number q.kind) q.offset x is held_row_there
      (held_low (map f ones) rows counts ksmps q kept held_there slow)

  pub held_set : (x new : A) (z : ℤ) → f new ≡ slice_set (f (slice_index_or ones k x)) q.offset z
      → AreKept (map f (slice_set ones k new)) rows counts ksmps
  held_set x new z set = subst (λ l. AreKept l rows counts ksmps)
      (sym (set_in_memory f ones k (kind_number q.kind) q.offset x new z is held_row_there set))
      (held_kept (map f ones) rows counts ksmps q z kept slow)

  pub held_written : (x new : A) (z : ℤ) → f new ≡ slice_set (f (slice_index_or ones k x)) q.offset z
      → IsWritten old q (constant z)
      (record { held = map f (slice_set ones k new); sounds = rows; counts = counts; ksmps = ksmps })
  held_written x new z set =
      let before : RegisterFile = record { held = map f ones; sounds = rows; counts = counts; ksmps = ksmps } in
      let low = held_low (map f ones) rows counts ksmps q kept held_there slow in
      let first = held_kind q.kind slow in
      subst (λ g. IsWritten g q (constant z) (record before { held = map f (slice_set ones k new) })) same
      (subst (λ l. IsWritten before q (constant z) (record before { held = l }))
      (sym (set_in_memory f ones k (kind_number q.kind) q.offset x new z is held_row_there set))
      (wrote_held before q z slow (omega (arith, first, kept.kinds)) low))

module _ {A : Type 0} (f : A → List (List ℤ)) (ones : List (List ℤ)) (rows : List A) (counts : Counts) (ksmps : ℕ)
    (old : RegisterFile) (q : Reg) (k : ℕ)
    (same : record { held = ones; sounds = map f rows; counts = counts; ksmps = ksmps } ≡ old)
    (kept : AreKept ones (map f rows) counts ksmps) (there : has_register old.counts q ≡ true)
    (sound : is_audio (rate_at q) ≡ true) (is : k ≡ kind_number q.kind - 5) where
  sound_there : has_register counts q ≡ true
  sound_there = there_inside counts old.counts q (ap (λ r. r.counts) same) there

  sound_row_there : k < length rows
  sound_row_there =
      let low = sound_number q.kind sound in
      let long = length-map rows f in omega (arith, is, low, long, kept.sound_kinds)

  sound_low_there : q.offset < length (slice_index_or (map f rows) (kind_number q.kind - 5) [])
  sound_low_there = sound_low ones (map f rows) counts ksmps q kept sound_there sound

  pub sound_place : {B : Type 0} (g : A → List B) → ((x : A) → length (f x) ≡ length (g x)) → (x : A)
      → q.offset < length (g (slice_index_or rows k x))
  sound_place g long x =
      let low : q.offset < length (f (slice_index_or rows k x)) =
      low_in_memory f rows k (kind_number q.kind - 5) q.offset x is sound_row_there sound_low_there in
      omega (arith, low, long (slice_index_or rows k x))

  -- the row of a register has a number for each frame of a cycle
  pub sound_long : (x : A) (row : List ℤ) → row ≡ slice_index_or (f (slice_index_or rows k x)) q.offset []
      → length row ≡ old.ksmps
  sound_long x row at =
      ap length (at ∙ ap (λ l. slice_index_or l q.offset []) (sym (get_or-map f rows k x [] sound_row_there)))
      ∙ kept.long k q.offset (subst (λ j. q.offset < length (slice_index_or (map f rows) j [])) (sym is)
      sound_low_there) ∙ ap (λ r. r.ksmps) same

  pub sound_set : (x new : A) (row : List ℤ) → length row ≡ old.ksmps
      → f new ≡ slice_set (f (slice_index_or rows k x)) q.offset row
      → AreKept ones (map f (slice_set rows k new)) counts ksmps
  sound_set x new row long set = subst (λ l. AreKept ones l counts ksmps)
      (sym (set_in_memory f rows k (kind_number q.kind - 5) q.offset x new row is sound_row_there set))
      (sound_kept ones (map f rows) counts ksmps q row kept sound (long ∙ sym (ap (λ r. r.ksmps) same)) sound_low_there)

  pub sound_written : (x new : A) (row : List ℤ) → length row ≡ old.ksmps
      → f new ≡ slice_set (f (slice_index_or rows k x)) q.offset row → IsWritten old q (row_wave row)
      (record { held = ones; sounds = map f (slice_set rows k new); counts = counts; ksmps = ksmps })
  sound_written x new row long set =
      let before : RegisterFile = record { held = ones; sounds = map f rows; counts = counts; ksmps = ksmps } in
      let first = sound_number q.kind sound in
      subst (λ g. IsWritten g q (row_wave row) (record before { sounds = map f (slice_set rows k new) })) same
      (subst (λ l. IsWritten before q (row_wave row) (record before { sounds = l }))
      (sym (set_in_memory f rows k (kind_number q.kind - 5) q.offset x new row is sound_row_there set))
      (wrote_sound before q row sound (long ∙ sym (ap (λ r. r.ksmps) same)) (omega (arith, first, kept.sound_kinds))
      sound_low_there))
