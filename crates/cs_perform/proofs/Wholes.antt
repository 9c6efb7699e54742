-- The complete file, and its prefixes.
use Rattle.std.proofs.Common.{◌≡◌, ◌≤◌, ◌<◌, ℕ, zero, suc, ◌+◌, ◌*◌, ◌-◌, ◌%◌, ◌==◌, Bool, true, false, ℤ, Result, Ok}
use Rattle.std.proofs.Common.{Err, OnOk, List, [], ◌++◌, length, replicate, refl, ap, sym, ◌∙◌, subst, arith}
use Rattle.std.proofs.{Common.append_assoc, Common.append-nil, Common.if◌then◌else◌, Math.Nat.mul_assoc}
use Rattle.std.proofs.lemmas.Bool.{eqb-true, eq-eqb}
use Rattle.std.specs.Result.{IsErrOf}
use Rattle.cs_base.specs.{Widths.bytes_of, declared.head.Head.Head, declared.width.SampleWidth.SampleWidth}
use Rattle.cs_piece_meaning.specs.{Heard.frames_before, Heard.frames_of, Heard.mix_in, Moments.Composition}
use Rattle.cs_edge.specs.{Told.IsFront, Told.Rose, Moves.SinkTold, Moves.Wrote, Moves.Stopped, Moves.Finished}
use Rattle.cs_edge.proofs.{Chains.front_of_front, Stories.rose_after}
use Rattle.cs_wav.specs.Wav.{header_bytes, samples_of, size_of, wav_of}
use Rattle.cs_wav.proofs.Files.{samples_of-append}
use Rattle.cs_perform.specs.{Hearing.IfWritten, declared.order.Output.Output, declared.order.PlayFault.PlayFault}
use Rattle.cs_perform.specs.Performances.{HasAtLeast, IsPart, IsPaused, Lent, LentSight, Performed, Performs, Request}
use Rattle.cs_perform.specs.Performances.{file_after, front_after}
use Rattle.cs_perform.specs.declared.order.PerformanceOrder.{PerformanceOrder}
use Rattle.cs_perform.specs.declared.order.Output.TheVariants.{SoundFile, Nothing}
use Rattle.cs_perform.specs.inner.Ends.{Breaks, Closes, Finishes, Stops, padding}
use Rattle.cs_perform.specs.inner.Plays.{BrokeOn, PausedOn, PlayedOn}
use Rattle.cs_perform.proofs.Files.{error_as, file_kept, file_part, file_paused, file_stopped, file_unbegun}
use Rattle.cs_perform.proofs.Files.{file_untouched, file_written, front_all, front_behind, keeps_less, part_kept}
use Rattle.cs_perform.proofs.Files.{rose_in_part, same_after, same_begun}
use Rattle.cs_perform.proofs.Frames.{frames_before_more, length-frames_before}
use Rattle.cs_perform.proofs.Performing.{performed_from, performed_more, performed_none, performed_until, samples_more}
use Rattle.cs_perform.specs.declared.order.PlayFault.TheVariants as fault

-- the byte 0 after samples of odd size
one_or_none : (r : ℕ) → r < 2 → padding (r == 1) ≡ replicate r 0
one_or_none zero lt = refl
one_or_none (suc zero) lt = refl
one_or_none (suc (suc r)) lt = absurd (omega arith)

-- the header, the samples of all cycles and the byte 0, if it follows them, are the file
wav_is : (c : Composition) (head : Head) (width : SampleWidth) (last : List ℕ)
    → last ≡ replicate (length (frames_of c) * bytes_of width % 2) 0
    → front_after c head width c.cycles ++ last ≡ wav_of (frames_of c) head width
unfolding wav_of
wav_is c head width last e = ap (λ (l : List ℕ). front_after c head width c.cycles ++ l) e

pub wav_ends : (c : Composition) (head : Head) (width : SampleWidth) (odd : Bool) (values : ℕ)
    → values ≡ length (frames_of c)
    → odd ≡ (values * bytes_of width % 2 == 1)
    → front_after c head width c.cycles ++ padding odd ≡ wav_of (frames_of c) head width
wav_ends c head width odd values e is =
    wav_is c head width (padding odd)
    (ap padding is ∙ one_or_none (values * bytes_of width % 2) (omega arith)
    ∙ ap (λ (k : ℕ). replicate (k * bytes_of width % 2) 0) e)

-- the file after the last cycle is complete
pub file_after_all : (c : Composition) (head : Head) (width : SampleWidth)
    → file_after c head width c.cycles ≡ wav_of (frames_of c) head width
file_after_all c head width =
    ap (λ (b : Bool). if b then wav_of (frames_of c) head width else front_after c head width c.cycles)
    (eq-eqb c.cycles c.cycles refl)

-- the header and the samples are a prefix of the file
front_of_wav : (c : Composition) (head : Head) (width : SampleWidth)
    → IsFront (front_after c head width c.cycles) (wav_of (frames_of c) head width)
front_of_wav c head width =
    let last : List ℕ = replicate (length (frames_of c) * bytes_of width % 2) 0 in
    (last, sym (wav_is c head width last refl))

front_by_test : (c : Composition) (head : Head) (width : SampleWidth) (n : ℕ) (b : Bool) → (n == c.cycles) ≡ b
    → IsFront (front_after c head width n) (if b then wav_of (frames_of c) head width else front_after c head width n)
front_by_test c head width n true e =
    let P : ℕ → Type 0 = λ k. IsFront (front_after c head width k) (wav_of (frames_of c) head width) in
    subst P (sym (eqb-true n c.cycles e)) (front_of_wav c head width)
front_by_test c head width n false e = front_all (front_after c head width n)

pub front_in_file : (c : Composition) (head : Head) (width : SampleWidth) (n : ℕ)
    → IsFront (front_after c head width n) (file_after c head width n)
front_in_file c head width n = front_by_test c head width n (n == c.cycles) refl

-- the frames of some cycles are a prefix of the frames of more cycles
record FramesFront (c : Composition) (n m : ℕ) : Type 0 where
  rest : List ℤ
  split : frames_before c m ≡ frames_before c n ++ rest

frames_front : (c : Composition) (n k : ℕ) → FramesFront c n (n + k)
frames_front c n zero = record {
  rest = [];
  split = ap (frames_before c) (let e : n + 0 ≡ n = omega arith in e) ∙ sym (append-nil (frames_before c n));
}
frames_front c n (suc k) =
    let p = frames_front c n k in
    record {
      rest = p.rest ++ mix_in c (n + k);
      split = ap (frames_before c) (let e : n + suc k ≡ (n + k) + 1 = omega arith in e) ∙ frames_before_more c (n + k)
          ∙ ap (λ (l : List ℤ). l ++ mix_in c (n + k)) p.split
          ∙ append_assoc (frames_before c n) p.rest (mix_in c (n + k));
    }

front_of_more : (c : Composition) (head : Head) (width : SampleWidth) (n m : ℕ) → n ≤ m
    → IsFront (front_after c head width n) (front_after c head width m)
front_of_more c head width n m le =
    let opening : List ℕ = header_bytes width (length (frames_of c) * bytes_of width) head in
    let p : FramesFront c n m =
    subst (FramesFront c n) (let e : n + (m - n) ≡ m = omega arith in e)
    (frames_front c n (m - n)) in
    front_behind opening (samples_of width head.dbfs (frames_before c n))
    (samples_of width head.dbfs (frames_before c m)) (
      samples_of width head.dbfs p.rest,
      ap (samples_of width head.dbfs) p.split
          ∙ samples_of-append width head.dbfs (frames_before c n) p.rest,
    )

front_of_all : (c : Composition) (head : Head) (width : SampleWidth) (n : ℕ) → n ≤ c.cycles
    → IsFront (front_after c head width n) (front_after c head width c.cycles)
front_of_all c head width n le = front_of_more c head width n c.cycles le

-- the header and the samples, and the samples of one more cycle
front_one_more : (c : Composition) (head : Head) (width : SampleWidth) (n : ℕ)
    → front_after c head width (n + 1) ≡ front_after c head width n ++ samples_of width head.dbfs (mix_in c n)
front_one_more c head width n =
    let opening : List ℕ = header_bytes width (length (frames_of c) * bytes_of width) head in
    ap (λ (l : List ℕ). opening ++ l) (samples_more c width head.dbfs n)
    ∙ sym (append_assoc opening (samples_of width head.dbfs (frames_before c n))
    (samples_of width head.dbfs (mix_in c n)))

-- the file after any number of cycles is a prefix of the complete one
file_front_by : (c : Composition) (head : Head) (width : SampleWidth) (n : ℕ) (b : Bool) → n ≤ c.cycles
    → IsFront (if b then wav_of (frames_of c) head width else front_after c head width n)
    (wav_of (frames_of c) head width)
file_front_by c head width n true le = front_all (wav_of (frames_of c) head width)
file_front_by c head width n false le =
    front_of_front (front_after c head width n) (front_after c head width c.cycles) (wav_of (frames_of c) head width)
    (front_of_all c head width n le)
    (front_of_wav c head width)

pub file_front : (c : Composition) (head : Head) (width : SampleWidth) (n : ℕ) → n ≤ c.cycles
    → IsFront (file_after c head width n) (wav_of (frames_of c) head width)
file_front c head width n le = file_front_by c head width n (n == c.cycles) le

-- the header for this number of frames is the piece's header
pub values_are : (c : Composition) (frames channels : ℕ) → frames ≡ c.cycles * c.head.ksmps → channels ≡ c.head.nchnls
    → frames * channels ≡ length (frames_of c)
values_are c frames channels e f =
    ap (λ (k : ℕ). k * channels) e ∙ ap (λ (k : ℕ). c.cycles * c.head.ksmps * k) f
    ∙ mul_assoc c.cycles c.head.ksmps c.head.nchnls
    ∙ sym (length-frames_before c c.cycles)

pub header_is : (c : Composition) (head : Head) (width : SampleWidth) (frames : ℕ) (first : List ℕ)
    → frames ≡ c.cycles * c.head.ksmps
    → head.nchnls ≡ c.head.nchnls → first ≡ header_bytes width (size_of width frames head) head
    → first ≡ header_bytes width (length (frames_of c) * bytes_of width) head
header_is c head width frames first e f is =
    is ∙ ap (λ (k : ℕ). header_bytes width (k * bytes_of width) head) (values_are c frames head.nchnls e f)

-- the end of a file, from its last bytes
module _ {W : Type 0} (tells : W → SinkTold) (c : Composition) (head : Head) (width : SampleWidth) where
  pub closes : (w : Output) (a b : W) (last : List ℕ)
      → front_after c head width c.cycles ++ last ≡ wav_of (frames_of c) head width
      → IfWritten tells w a b (Finishes last) → IfWritten tells w a b (Closes c head width)
  closes SoundFile a b last e p =
      λ start name wrote. subst (Finished start (tells b) name) e
      (p start name (front_after c head width c.cycles) wrote)
  closes Nothing a b last e p = p

  pub breaks : (w : Output) (a b : W) (last : List ℕ)
      → front_after c head width c.cycles ++ last ≡ wav_of (frames_of c) head width
      → IfWritten tells w a b (Stops last) → IfWritten tells w a b (Breaks c head width)
  breaks SoundFile a b last e p = λ start name wrote.
      let both = p start name (front_after c head width c.cycles) wrote in
      (subst (Stopped start (tells b) name) (e ∙ sym (file_after_all c head width)) both.0, both.1)
  breaks Nothing a b last e p = p

  file_closed : (w : Output) (a b d : W) (name : List ℕ)
      → IfWritten tells w a b (λ x y. Wrote x y name (front_after c head width c.cycles))
      → IfWritten tells w b d (Closes c head width)
      → IfWritten tells w a d (λ x y. Finished x y name (wav_of (frames_of c) head width))
  file_closed SoundFile a b d name p q = q (tells a) name p
  file_closed Nothing a b d name p q = q ∙ p

  file_broken : (w : Output) (a b d : W) (name : List ℕ)
      → IfWritten tells w a b (λ x y. Wrote x y name (front_after c head width c.cycles))
      → IfWritten tells w b d (Breaks c head width)
      → IfWritten tells w a d (λ x y. Stopped x y name (file_after c head width c.cycles))
  file_broken SoundFile a b d name p q = (q (tells a) name p).0
  file_broken Nothing a b d name p q = q ∙ p

  broken_kept : (w : Output) (a b d : W) (name : List ℕ)
      → IfWritten tells w a b (λ x y. Wrote x y name (front_after c head width c.cycles))
      → IfWritten tells w b d (Breaks c head width)
      → IfWritten tells w a d (HasAtLeast name (front_after c head width (c.cycles - 1)))
  broken_kept SoundFile a b d name p q =
      keeps_less (tells a) (tells d) name (front_after c head width (c.cycles - 1)) (front_after c head width c.cycles)
      (front_of_all c head width (c.cycles - 1) (omega arith)) (q (tells a) name p).1
  broken_kept Nothing a b d name p q = q ∙ p

pub not_ok : {A : Type 0} (x : A) (f : PlayFault) → IsErrOf {T = A} (Ok x) f → ⊥
not_ok x f e = cc

pub not_sink : {A : Type 0} → IsErrOf {T = A} (Err fault.OutOfMemory) fault.Sink → ⊥
not_sink e = cc

not_memory : {A : Type 0} → IsErrOf {T = A} (Err fault.Sink) fault.OutOfMemory → ⊥
not_memory e = cc

module _ {T W C : Type 0} (see : LentSight T W C) (request : Request) where
  abbrev c : Composition
  c = request.piece

  abbrev head : Head
  head = request.head

  abbrev order : PerformanceOrder
  order = request.order

  abbrev name : List ℕ
  name = request.name

  -- the same, for the result of another call
  pub performs_ok : {A B : Type 0} (a b : Lent T W C) (x : A) (y : B)
      → Performs see request a b (let r : Result A PlayFault = Ok x in r)
      → Performs see request a b (let r : Result B PlayFault = Ok y in r)
  performs_ok a b x y p = record {
    whole = p.whole;
    part = tt;
    memory = λ e. absurd (not_ok y fault.OutOfMemory e);
    sink = λ e. absurd (not_ok y fault.Sink e);
  }

  pub performs_err : {A B : Type 0} (a b : Lent T W C) (f : PlayFault)
      → Performs see request a b (let r : Result A PlayFault = Err f in r)
      → Performs see request a b (let r : Result B PlayFault = Err f in r)
  performs_err a b f p = record {
    whole = tt;
    part = p.part;
    memory = λ e. p.memory (error_as f fault.OutOfMemory e);
    sink = λ e. p.sink (error_as f fault.Sink e);
  }

  -- memory ran out before anything was done
  pub performs_nothing : {A : Type 0} (a : Lent T W C)
      → Performs see request a a (let r : Result A PlayFault = Err fault.OutOfMemory in r)
  performs_nothing a =
      record {
        whole = tt;
        part = record {
          cycles = 0;
          within = omega arith;
          performed = performed_none see c a a refl refl;
          written = file_untouched see.wav order.output a.wav name (file_after c head order.width 0);
          kept = λ some. absurd (omega arith);
        };
        memory = λ e. record {
          cycles = 0;
          within = omega arith;
          performed = performed_none see c a a refl refl;
          written = file_unbegun see.wav order.output a.wav name (front_after c head order.width 0) _
              (refl, refl);
        };
        sink = λ e. absurd (not_sink e);
      }

  -- a performance that began before the sink was opened
  module _ (first : List ℕ) (a b : Lent T W C) (taps : b.taps ≡ a.taps) (tally : b.tally ≡ a.tally)
      (is : first ≡ header_bytes order.width (length (frames_of c) * bytes_of order.width) head) where
    -- the start of the file was written in part
    part_begun : ((rest : List ℕ)
        → IfWritten see.wav order.output a.wav b.wav (λ x y. Stopped x y name (first ++ rest)))
        → IsPart see request a b
    part_begun stopped =
        let sounds : List ℕ = samples_of order.width head.dbfs (frames_before c 0) in
        let f = front_in_file c head order.width 0 in
        let same : first ++ (sounds ++ f.0) ≡ file_after c head order.width 0 =
        sym (append_assoc first sounds f.0) ∙ ap (λ (l : List ℕ). (l ++ sounds) ++ f.0) is ∙ sym f.1 in
        record {
          cycles = 0;
          within = omega arith;
          performed = performed_none see c a b taps tally;
          written = subst (λ (l : List ℕ). IfWritten see.wav order.output a.wav b.wav (λ x y. Stopped x y name l)) same
              (stopped (sounds ++ f.0));
          kept = λ some. absurd (omega arith);
        }

    pub performs_unbegun : {A : Type 0}
        → ((rest : List ℕ) → IfWritten see.wav order.output a.wav b.wav (λ x y. Stopped x y name (first ++ rest)))
        → order.output ≡ SoundFile → Rose (see.wav a.wav).faults (see.wav b.wav).faults
        → Performs see request a b (let r : Result A PlayFault = Err fault.Sink in r)
    performs_unbegun stopped written rose = record {
      whole = tt;
      part = part_begun stopped;
      memory = λ e. absurd (not_memory e);
      sink = λ e. (written, rose);
    }

    module _ (begun : IfWritten see.wav order.output a.wav b.wav (λ x y. Wrote x y name first)) (d : Lent T W C) where
      -- no call failed so far
      calm : (see.wav b.wav).faults ≡ (see.wav a.wav).faults
      calm = same_begun see.wav order.output a.wav b.wav name first begun

      -- the file after n cycles
      written_so_far : (n : ℕ) (e : Lent T W C) → PlayedOn see request n b e
          → IfWritten see.wav order.output a.wav e.wav (λ x y. Wrote x y name (front_after c head order.width n))
      written_so_far n e p =
          let sounds : List ℕ = samples_of order.width head.dbfs (frames_before c n) in
          let P : List ℕ → Type 0 =
          λ l. IfWritten see.wav order.output a.wav e.wav (λ x y. Wrote x y name (l ++ sounds)) in
          subst P is (file_written see.wav order.output a.wav b.wav e.wav name first sounds begun p.written)

      -- the sink failed in the next cycle
      part_broke : BrokeOn see request b d → IsPart see request a d
      part_broke p =
          let n : ℕ = p.cycles in
          let mix : List ℕ = samples_of order.width head.dbfs (mix_in c n) in
          let wrote = written_so_far n p.between p.played in
          let last : n + 1 - 1 ≡ n = omega arith in
          record {
            cycles = n + 1;
            within = omega (arith, p.within);
            performed = performed_more see c n a p.between d
                (performed_from see c n a b p.between taps tally p.played.performed) p.broke.told p.broke.counted;
            written = file_part see.wav order.output a.wav p.between.wav d.wav name (front_after c head order.width n)
                mix (file_after c head order.width (n + 1)) wrote p.broke.written
                (subst (λ (l : List ℕ). IsFront l (file_after c head order.width (n + 1)))
                (front_one_more c head order.width n)
                (front_in_file c head order.width (n + 1)));
            kept = λ some. subst (λ (k : ℕ). IfWritten see.wav order.output a.wav d.wav
                (HasAtLeast name (front_after c head order.width k))) (sym last)
                (part_kept see.wav order.output a.wav p.between.wav d.wav name (front_after c head order.width n)
                (front_after c head order.width n) mix wrote p.broke.written
                (front_all (front_after c head order.width n)));
          }

      -- memory ran out between two cycles
      paused_between : PausedOn see request b d → IsPaused see request a d
      paused_between p =
          record {
            cycles = p.cycles;
            within = p.within;
            performed = performed_from see c p.cycles a b d taps tally p.played.performed;
            written = file_paused see.wav order.output a.wav d.wav name (front_after c head order.width p.cycles) _
                (written_so_far p.cycles d p.played);
          }

      part_paused : PausedOn see request b d → IsPart see request a d
      part_paused p =
          let wrote = written_so_far p.cycles d p.played in
          record {
            cycles = p.cycles;
            within = p.within;
            performed = performed_from see c p.cycles a b d taps tally p.played.performed;
            written = file_stopped see.wav order.output a.wav d.wav name (front_after c head order.width p.cycles)
                (file_after c head order.width p.cycles) wrote (front_in_file c head order.width p.cycles);
            kept = λ some. file_kept see.wav order.output a.wav d.wav name
                (front_after c head order.width (p.cycles - 1)) (front_after c head order.width p.cycles) wrote
                (front_of_more c head order.width (p.cycles - 1) p.cycles (omega arith));
          }

      rose_behind : (x y : ℕ) → x ≡ (see.wav b.wav).faults → Rose x y → Rose (see.wav a.wav).faults y
      rose_behind x y same rose = rose_after (see.wav a.wav).faults x y (same ∙ calm) rose

      broke_rose : order.output ≡ SoundFile → BrokeOn see request b d
          → Rose (see.wav a.wav).faults (see.wav d.wav).faults
      broke_rose told p =
          rose_behind (see.wav p.between.wav).faults (see.wav d.wav).faults
          (same_after see.wav order.output b.wav p.between.wav _ p.played.written)
          (rose_in_part see.wav order.output p.between.wav d.wav _ told p.broke.written)

      pub performs_in_part : {A B : Type 0} (f : PlayFault)
          → (IsErrOf {T = A} (Err f) fault.Sink → BrokeOn see request b d)
          → (IsErrOf {T = A} (Err f) fault.OutOfMemory → PausedOn see request b d)
          → (IsErrOf {T = A} (Err f) fault.Sink → order.output ≡ SoundFile)
          → Performs see request a d (let r : Result B PlayFault = Err f in r)
      performs_in_part fault.Sink broke memory sink = record {
        whole = tt;
        part = part_broke (broke refl);
        memory = λ e. absurd (not_memory e);
        sink = λ e. (sink refl, broke_rose (sink refl) (broke refl));
      }
      performs_in_part fault.OutOfMemory broke memory sink = record {
        whole = tt;
        part = part_paused (memory refl);
        memory = λ e. paused_between (memory refl);
        sink = λ e. absurd (not_sink e);
      }

    -- all cycles were played, and the file was ended, or not
    module _ (begun : IfWritten see.wav order.output a.wav b.wav (λ x y. Wrote x y name first)) (d : Lent T W C)
        (all : PlayedOn see request c.cycles b d) (z : Lent T W C) (taps' : z.taps ≡ d.taps)
        (tally' : z.tally ≡ d.tally) where
      performed : Performed see c c.cycles a z
      performed = performed_until see c c.cycles a d z taps' tally'
          (performed_from see c c.cycles a b d taps tally all.performed)

      wrote : IfWritten see.wav order.output a.wav d.wav
          (λ x y. Wrote x y name (front_after c head order.width c.cycles))
      wrote = written_so_far begun d c.cycles d all

      paused_behind : z.wav ≡ d.wav → PausedOn see request b z
      paused_behind same = record {
        cycles = c.cycles;
        within = omega arith;
        played = record {
          performed = performed_until see c c.cycles b d z taps' tally' all.performed;
          written = rw same all.written;
        };
      }

      pub performs_closed : {A : Type 0} (r : Result A PlayFault)
          → OnOk r (IfWritten see.wav order.output d.wav z.wav (Closes c head order.width))
          → (IsErrOf r fault.Sink → IfWritten see.wav order.output d.wav z.wav (Breaks c head order.width))
          → (IsErrOf r fault.Sink → (order.output ≡ SoundFile) × Rose (see.wav d.wav).faults (see.wav z.wav).faults)
          → (IsErrOf r fault.OutOfMemory → z.wav ≡ d.wav) → Performs see request a z r
      performs_closed (Ok x) ended broken sink same = record {
        whole = record {
          performed = performed;
          written = file_closed see.wav c head order.width order.output a.wav d.wav z.wav name wrote ended;
        };
        part = tt;
        memory = λ e. absurd (not_ok x fault.OutOfMemory e);
        sink = λ e. absurd (not_ok x fault.Sink e);
      }
      performs_closed (Err fault.Sink) ended broken sink same = record {
        whole = tt;
        part = record {
          cycles = c.cycles;
          within = omega arith;
          performed = performed;
          written = file_broken see.wav c head order.width order.output a.wav d.wav z.wav name wrote (broken refl);
          kept = λ some. broken_kept see.wav c head order.width order.output a.wav d.wav z.wav name wrote (broken refl);
        };
        memory = λ e. absurd (not_memory e);
        sink = λ e. let told = sink refl in (
          told.0,
          rose_behind begun d (see.wav d.wav).faults (see.wav z.wav).faults
              (same_after see.wav order.output b.wav d.wav _ all.written) told.1,
        );
      }
      performs_closed {A} (Err fault.OutOfMemory) ended broken sink same =
          performs_in_part begun z {A = A} fault.OutOfMemory (λ e. absurd (not_sink e)) (λ e. paused_behind (same refl))
          (λ e. absurd (not_sink e))
