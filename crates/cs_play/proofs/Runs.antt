-- How a run ends: one lemma for each return.
use Rattle.std.proofs.Common.{◌≡◌, ◌++◌, ◌*◌, ℕ, List, [], Bool, true, false, Result, Some, Ok, Err, refl, ap, ◌∙◌, inl}
use Rattle.std.proofs.Common.{inr, if◌then◌else◌}
use Rattle.std.specs.{List.count_by, List.flat_map, Result.IfErr, Result.IfOk, Result.OnOk}
use Rattle.cs_base.specs.{declared.head.Head.Head, declared.width.SampleWidth.SampleWidth}
use Rattle.cs_piece.specs.Setups.{composition_of}
use Rattle.cs_piece_meaning.specs.{Course.closing, Heard.frames_of, Moments.Composition}
use Rattle.cs_edge.specs.Told.{Rose}
use Rattle.cs_perform.specs.Performances.{IsOutcomeOf, IsPart, IsPaused, IsWholePerformance, Lent, Request, if_told}
use Rattle.cs_perform.specs.{Performances.lent, declared.order.Outcome.Outcome, declared.order.PlayFault.PlayFault}
use Rattle.cs_perform.specs.declared.order.Output.TheVariants.{SoundFile}
use Rattle.cs_play.specs.Endings.{EndsBy, IsUnplayed, IsUntouched, lines_of, output_of, sees_lent, request_in}
use Rattle.cs_play.specs.Preparing.{IsPrepared, IsReadFor, IsUnprepared}
use Rattle.cs_play.specs.Report.{counts_of, meter_lines, report_of}
use Rattle.cs_play.specs.{Runs.IsProgramRun, Scene.Scene, Scene.Sight, Scene.scene, declared.player.Played.Played}
use Rattle.cs_play.specs.{declared.preparing.Prepared.Prepared, inner.Faulted.fault_status}
use Rattle.cs_play.specs.inner.Sounding.{HasPlayed, HasReported, HasSaid, counts_told}
use Rattle.cs_report.specs.Report.{count_lines, counts_in, line_room}
use Rattle.cs_report.specs.{Talk.Says, Talk.message_of, declared.status.Status.Status}
use Rattle.cs_arguments.specs.{Orders.asked_in, Reading.Asked, Reading.Text, Reading.reading}
use Rattle.cs_source.specs.Loaded.{IsLoaded}
use Rattle.cs_turns.specs.Turns.{turn_lines_of}
use Rattle.cs_typed.specs.TypedTree.{header_of_head}
use Rattle.cs_wav.specs.Wav.{is_out_of_range}
use Rattle.cs_perform.specs.declared.order.PlayFault.TheVariants as fault
use Rattle.cs_play.specs.declared.player.Played.TheVariants as what
use Rattle.cs_report.specs.declared.status.Status.TheVariants as status

same_lines : (a b c d e a' b' c' d' e' : ℕ) → a ≡ a' → b ≡ b' → c ≡ c' → d ≡ d' → e ≡ e'
    → count_lines a b c d e ≡ count_lines a' b' c' d' e'
same_lines a b c d e a' b' c' d' e' p q r s t = cc

-- the counts that the performer returned are the composition's counts
same_counts : (c : Composition) (width : SampleWidth) (o : Outcome) → IsOutcomeOf c width o
    → counts_in (counts_told o) ≡ counts_of c width
unfolding counts_of
same_counts c width o is =
    same_lines o.frames o.cycles o.started o.not_started o.out_of_range (c.cycles * c.head.ksmps) c.cycles
    (closing c).started
    (closing c).not_started (count_by (is_out_of_range width c.head.dbfs) (frames_of c))
    is.frames is.cycles is.started is.not_started is.out_of_range

-- the lines of turns, if they are asked for
told_lines : (turns : Bool) (bytes : List ℕ) → if_told (lines_of turns) bytes ≡ (if turns then bytes else [])
told_lines true bytes = refl
told_lines false bytes = refl

not_silent : (silent : Bool) → output_of silent ≡ SoundFile → silent ≡ false
not_silent true e = absurd (cc)
not_silent false e = refl

module _ {F K T B C : Type 0} (see : Sight F K T B C) where
  untouched : (shelf shelf' : F) (wav : K) (talk talk' : T) (taps : List B) (tally : C)
      → IsUntouched see (scene shelf wav talk taps tally) (scene shelf' wav talk' taps tally)
  untouched shelf shelf' wav talk talk' taps tally = record { wav = refl; taps = refl; tally = refl }

  -- NO PIECE, and nothing was performed
  module _ (words : List Text) (shelf shelf' : F) (wav : K) (talk talk' : T) (taps : List B) (tally : C) where
    unplayed : (s : Status) → IsUnprepared see.shelf s words shelf shelf' (see.talk talk) (see.talk talk')
        → IsUnplayed see s words (scene shelf wav talk taps tally) (scene shelf' wav talk' taps tally)
    unplayed s h = record { unprepared = h; untouched = untouched shelf shelf' wav talk talk' taps tally }

    ends_unplayed : (s : Status) → IsUnprepared see.shelf s words shelf shelf' (see.talk talk) (see.talk talk')
        → EndsBy see s words (scene shelf wav talk taps tally) (scene shelf' wav talk' taps tally)
    ends_unplayed status.Ok h = absurd h.cause
    ends_unplayed status.TalkFault h = absurd h.cause
    ends_unplayed status.SinkFault h = absurd h.cause
    ends_unplayed status.OutOfMemory h =
        record { calm = h.cause; performed = inl (untouched shelf shelf' wav talk talk' taps tally); line = h.line }
    ends_unplayed s h = unplayed s h

  -- A COMPOSITION, which was performed

  -- the report as it was written
  report_is : (c : Composition) (asked : Asked) (o : Outcome) (taps : List B) → IsOutcomeOf c asked.width o
      → o.turns ≡ if_told (lines_of asked.turns) (turn_lines_of c)
      → counts_in (counts_told o) ++ flat_map (λ tap. see.line tap line_room) taps
      ++ o.turns ≡ report_of c asked (meter_lines see.line taps)
  report_is c asked o taps is lines =
      ap (λ (l : List ℕ). l ++ flat_map (λ tap. see.line tap line_room) taps ++ o.turns)
      (same_counts c asked.width o is)
      ∙ ap (λ (l : List ℕ). counts_of c asked.width ++ flat_map (λ tap. see.line tap line_room) taps ++ l)
      (lines ∙ told_lines asked.turns (turn_lines_of c))

  -- The piece of a source that was performed. The performance doesn't use the shelf.
  module _ (words : List Text) (asked : Asked) (c : Composition) (head : Head) (shelf shelf' : F) (wav wav' : K)
      (talk talk' : T) (taps taps' : List B) (tally tally' : C) (e : reading words ≡ Some asked)
      (same : header_of_head head ≡ c.head)
      (loaded : IsLoaded (see.shelf shelf) (see.shelf shelf') asked.width asked.piece (Ok c)) where
    abbrev before : Scene F K T B C
    before = scene shelf wav talk taps tally

    abbrev now : Scene F K T B C
    now = scene shelf' wav' talk' taps' tally'

    abbrev request : Request
    request = request_in asked c head

    -- a complete performance, and then its report
    whole_ends : (o : Outcome) (s : Status)
        → IsWholePerformance (sees_lent see) request (lent wav taps tally) (lent wav' taps' tally')
        → IsOutcomeOf c asked.width o → o.turns ≡ if_told (lines_of asked.turns) (turn_lines_of c)
        → HasReported (see.talk talk) (see.talk talk')
        (counts_in (counts_told o) ++ flat_map (λ tap. see.line tap line_room) taps' ++ o.turns) s
        → EndsBy see s words before now
    whole_ends o status.Ok whole is lines wrote = (
      asked,
      e,
      record {
        c = c;
        loaded = loaded;
        performed = record { head = head; head_is = same; whole = whole };
        report = rw (report_is c asked o taps' is lines) at wrote;
      },
    )
    whole_ends o status.TalkFault whole is lines part = (
      asked,
      e,
      record {
        c = c;
        loaded = loaded;
        performed = record { head = head; head_is = same; whole = whole };
        report = rw (report_is c asked o taps' is lines) at part;
      },
    )
    whole_ends o s whole is lines never = absurd never

    -- a performance that stopped early
    part_ends : (f : PlayFault) → IsPart (sees_lent see) request (lent wav taps tally) (lent wav' taps' tally')
        → (f ≡ fault.OutOfMemory → IsPaused (sees_lent see) request (lent wav taps tally) (lent wav' taps' tally'))
        → (f ≡ fault.Sink → (output_of asked.silent ≡ SoundFile) × Rose (see.wav wav).faults (see.wav wav').faults)
        → Says (see.talk talk) (see.talk talk') (message_of (fault_status f) [])
        → EndsBy see (fault_status f) words before now
    part_ends fault.Sink part paused cause says = (
      asked,
      e,
      record {
        c = c;
        loaded = loaded;
        performed = record { head = head; head_is = same; part = part };
        written = not_silent asked.silent (cause refl).0;
        rose = (cause refl).1;
        line = says;
      },
    )
    part_ends fault.OutOfMemory part paused cause says = record {
      calm = loaded.same;
      performed = inr (
        asked,
        e,
        record {
          c = c;
          loaded = loaded;
          performed = record { head = head; head_is = same; paused = paused refl };
        },
      );
      line = says;
    }

  -- What was prepared, a piece or the reason why there is none, was performed, and the result printed. `mid`
  -- is the state of `talk` between the two.
  pub prepared_run : (words : List Text) (p : Result Prepared Status) (played : Played) (r : Status) (shelf shelf' : F)
      (wav wav' : K) (talk mid talk' : T) (taps taps' : List B) (tally tally' : C)
      → IsReadFor see.shelf words shelf shelf'
      → IfOk p (IsPrepared see.shelf words shelf shelf')
      → OnOk p (mid ≡ talk)
      → IfErr p (λ s. IsUnprepared see.shelf s words shelf shelf' (see.talk talk) (see.talk mid))
      → HasPlayed (sees_lent see) p (lent wav taps tally) (lent wav' taps' tally') played
      → HasSaid see.talk see.line played taps' mid talk' r
      → IsProgramRun see words r (scene shelf wav talk taps tally) (scene shelf' wav' talk' taps' tally')
  prepared_run words (Ok p) (what.Piece (Ok o)) r shelf shelf' wav wav' talk mid talk' taps taps' tally tally' was
      prepared quiet unprepared play said =
      record {
        ended = whole_ends words (asked_in p.order) (composition_of p.setup) p.setup.orchestra.head shelf shelf' wav
            wav' talk talk' taps taps' tally tally' prepared.asked refl prepared.loaded o r play.performed.whole
            play.outcome play.turns
            (rw quiet at said);
        shelf = was;
      }
  prepared_run words (Ok p) (what.Piece (Err f)) r shelf shelf' wav wav' talk mid talk' taps taps' tally tally' was
      prepared quiet unprepared play said = record {
        ended = rw said.0
            (part_ends words (asked_in p.order) (composition_of p.setup) p.setup.orchestra.head shelf shelf' wav wav'
            talk talk' taps taps' tally tally' prepared.asked refl prepared.loaded f play.performed.part
            (λ e. play.performed.memory (ap (λ (x : PlayFault). Err x) e))
            (λ e. play.performed.sink (ap (λ (x : PlayFault). Err x) e)) (rw quiet at said.1));
        shelf = was;
      }
  prepared_run words (Ok p) (what.Nothing t) r shelf shelf' wav wav' talk mid talk' taps taps' tally tally' was
      prepared quiet unprepared play said = absurd play
  prepared_run words (Err s) (what.Piece x) r shelf shelf' wav wav' talk mid talk' taps taps' tally tally' was
      prepared quiet unprepared play said = absurd play
  prepared_run words (Err s) (what.Nothing t) r shelf shelf' wav wav' talk mid talk' taps taps' tally tally' was
      prepared quiet unprepared play said =
      let wavs : wav' ≡ wav = ap (λ (l : Lent B K C). l.wav) play.1 in
      let tapped : taps' ≡ taps = ap (λ (l : Lent B K C). l.taps) play.1 in
      let tallies : tally' ≡ tally = ap (λ (l : Lent B K C). l.tally) play.1 in
      let status_is : r ≡ s = said.0 ∙ play.0 in
      let spoken : talk' ≡ mid = said.1 in
      rw (status_is, spoken, wavs, tapped, tallies)
      (record { ended = ends_unplayed words shelf shelf' wav talk mid taps tally s unprepared; shelf = was })
