-- A performance grows cycle by cycle.
use Rattle.std.proofs.Common.{◌≡◌, ◌≤◌, ◌<◌, ℕ, ◌+◌, ℤ, List, [], ◌∷◌, ◌++◌, refl, ap, ◌∙◌, append_assoc, append-nil}
use Rattle.std.specs.List.{AllZip, range_with_len}
use Rattle.cs_base.specs.declared.width.SampleWidth.{SampleWidth}
use Rattle.cs_piece_meaning.specs.{Heard.frames_before, Heard.mix_in, Moments.Composition}
use Rattle.cs_edge.specs.Moves.{SinkTold}
use Rattle.cs_wav.specs.Wav.{samples_of}
use Rattle.cs_wav.proofs.Files.{samples_of-nil, samples_of-append}
use Rattle.cs_perform.specs.{Counted.AreHeardIn, Hearing.Told, Hearing.IfWritten, inner.Stands.CountsCycle}
use Rattle.cs_perform.specs.Performances.{Lent, LentSight, Performed, Request}
use Rattle.cs_perform.specs.inner.Plays.{BreaksCycle, BrokeOn, PausedOn, PlayedOn, PlaysCycle, RunsCycle, samples_for}
use Rattle.cs_perform.proofs.{Files.more_written, Files.none_written, Telling.told_nothing, Telling.told_twice}
use Rattle.cs_perform.proofs.Frames.{frames_before_more, numbers_more}

-- one more pair
zip_more : {A B : Type 0} (R : A → B → Type 0) (xs : List A) (ys : List B) (x : A) (y : B) → AllZip R xs ys → R x y
    → AllZip R (xs ++ x ∷ []) (ys ++ y ∷ [])
zip_more R [] [] x y p r = (r, tt)
zip_more R [] (b ∷ ys) x y p r = absurd p
zip_more R (a ∷ xs) [] x y p r = absurd p
zip_more R (a ∷ xs) (b ∷ ys) x y p r = (p.0, zip_more R xs ys x y p.1 r)

module _ {T W C : Type 0} (see : LentSight T W C) (c : Composition) where
  -- no cycle yet
  pub performed_none : (a b : Lent T W C) → b.taps ≡ a.taps → b.tally ≡ a.tally → Performed see c 0 a b
  performed_none a b e f = record {
    told = rw e (told_nothing see.stands a.taps);
    receipts = [];
    heard = tt;
    counted = λ h x. rw (f, append-nil h) x;
  }

  -- a performance that began before the sink was opened, or lasted until after it was ended
  pub performed_from : (n : ℕ) (a b d : Lent T W C) → b.taps ≡ a.taps → b.tally ≡ a.tally → Performed see c n b d
      → Performed see c n a d
  performed_from n a b d e f p = record {
    told = rw e at p.told;
    receipts = p.receipts;
    heard = p.heard;
    counted = rw f at p.counted;
  }

  pub performed_until : (n : ℕ) (a b d : Lent T W C) → d.taps ≡ b.taps → d.tally ≡ b.tally → Performed see c n a b
      → Performed see c n a d
  performed_until n a b d e f p = record {
    told = rw e p.told;
    receipts = p.receipts;
    heard = p.heard;
    counted = rw f p.counted;
  }

  -- one more cycle
  pub performed_more : (n : ℕ) (a b d : Lent T W C) → Performed see c n a b → Told see.stands b.taps d.taps (mix_in c n)
      → CountsCycle see.counted c n b.tally d.tally
      → Performed see c (n + 1) a d
  performed_more n a b d p told counts =
      let heard : AllZip (AreHeardIn c) (range_with_len 0 n ++ n ∷ []) (p.receipts ++ counts.voices ∷ []) =
      zip_more (AreHeardIn c) (range_with_len 0 n) p.receipts n counts.voices p.heard counts.heard in
      record {
        told = rw (frames_before_more c n)
            (told_twice see.stands a.taps b.taps d.taps (frames_before c n) (mix_in c n) p.told told);
        receipts = p.receipts ++ counts.voices ∷ [];
        heard = rw (numbers_more n) heard;
        counted = λ h x. rw (← append_assoc h p.receipts (counts.voices ∷ []))
            (counts.counted (h ++ p.receipts) (p.counted h x));
      }

-- the samples of one more cycle
pub samples_more : (c : Composition) (width : SampleWidth) (dbfs : ℤ) (n : ℕ)
    → samples_of width dbfs (frames_before c (n + 1)) ≡ samples_of width dbfs (frames_before c n)
    ++ samples_of width dbfs (mix_in c n)
samples_more c width dbfs n =
    ap (samples_of width dbfs) (frames_before_more c n) ∙ samples_of-append width dbfs (frames_before c n) (mix_in c n)

module _ {T W C : Type 0} (see : LentSight T W C) (request : Request) where
  abbrev c : Composition
  c = request.piece

  abbrev samples : ℕ → List ℕ
  samples n = samples_for request (frames_before c n)

  pub played_none : (a : Lent T W C) → PlayedOn see request 0 a a
  played_none a = record {
    performed = performed_none see c a a refl refl;
    written = rw (samples_of-nil request.order.width request.head.dbfs)
        (none_written see.wav request.order.output a.wav);
  }

  pub played_more : (n : ℕ) (a b d : Lent T W C) → PlayedOn see request n a b → PlaysCycle see request n b d
      → PlayedOn see request (n + 1) a d
  played_more n a b d p more = record {
    performed = performed_more see c n a b d p.performed more.told more.counted;
    written = rw (samples_more c request.order.width request.head.dbfs n)
        (more_written see.wav request.order.output a.wav b.wav d.wav (samples n) (samples_for request (mix_in c n))
        p.written more.written);
  }

  -- the sink failed in this cycle
  pub broke_after : (n : ℕ) (a b d : Lent T W C) → n < c.cycles → PlayedOn see request n a b
      → BreaksCycle see request n b d → BrokeOn see request a d
  broke_after n a b d lt p s = record { cycles = n; within = lt; between = b; played = p; broke = s }

  -- memory ran out before this cycle
  pub paused_before : (n : ℕ) (a b d : Lent T W C) → n ≤ c.cycles → d ≡ b → PlayedOn see request n a b
      → PausedOn see request a d
  paused_before n a b d le same p = record { cycles = n; within = le; played = rw same p }

-- A cycle, by what its notes, the taps and the sink did.
module _ {T W C : Type 0} (see : LentSight T W C) (request : Request) (dbfs : ℤ) (n : ℕ) (mix : List ℤ)
    (a b : Lent T W C)
    (is : mix ≡ mix_in request.piece n) (same : dbfs ≡ request.head.dbfs) (told : Told see.stands a.taps b.taps mix)
    (counts : CountsCycle see.counted request.piece n a.tally b.tally) where
  samples_are : samples_of request.order.width dbfs mix ≡ samples_for request (mix_in request.piece n)
  samples_are = ap (λ (d : ℤ). samples_of request.order.width d mix) same ∙ ap (samples_for request) is

  pub runs_cycle : (Writes : SinkTold → SinkTold → List ℕ → Type 0)
      → IfWritten see.wav request.order.output a.wav b.wav
      (λ x y. Writes x y (samples_of request.order.width dbfs mix)) → RunsCycle see request Writes n a b
  runs_cycle Writes wrote = record { told = rw is at told; counted = counts; written = rw samples_are at wrote }
