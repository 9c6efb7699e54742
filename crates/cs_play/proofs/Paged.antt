-- The result of every run is on the page.
use Rattle.std.proofs.Common.{◌≡◌, ◌≢◌, ◌⊎◌, ℕ, List, [], Bool, true, false, Some, Ok, Err, refl, ap, ⊎_elim, inl, inr}
use Rattle.cs_arguments.specs.Reading.{Asked, Text, reading}
use Rattle.cs_base.specs.{declared.head.Head.Head, declared.refusal.Refusal.Refusal}
use Rattle.cs_edge.proofs.Stories.{stopped_longer}
use Rattle.cs_edge.specs.{Files.ShelfTold, Moves.Finished, Moves.SinkTold, Moves.Stopped, Moves.Wrote, Told.IsFront}
use Rattle.cs_perform.specs.{Hearing.IfWritten, Performances.file_after, Performances.front_after}
use Rattle.cs_piece_meaning.specs.{Heard.frames_of, Moments.Composition}
use Rattle.cs_play.specs.Endings.{EndsBy, HasLoaded, IsCutShort, IsSinkFault, IsStarved, WasPerformed, output_of}
use Rattle.cs_play.specs.Page.{Ends, HasRead, Outside, Sounds, played, refused, starved, unread, unsaid, unwritten}
use Rattle.cs_play.specs.{Page.usage, Preparing.Reads, Report.meter_lines, Scene.Scene, Scene.Sight}
use Rattle.cs_play.specs.Runs.{IsProgramRun, told_in}
use Rattle.cs_report.specs.{Status.refusal, Talk.Says, Talk.message_of, declared.status.Status.Status}
use Rattle.cs_source.specs.{Meaning.Mean, Sounds.IsSoundOf, Texts.Texts}
use Rattle.cs_typed.specs.TypedTree.{header_of_head}
use Rattle.cs_wav.specs.Wav.{wav_of}
use Rattle.cs_play.proofs.{Sounds.AreFronts, Sounds.front_is, TwoRuns.written_is}
use Rattle.cs_base.specs.declared.refusal.Refusal.TheVariants as why
use Rattle.cs_report.specs.declared.status.Status.TheVariants as status

-- the sound of texts that mean this composition
sound_is : (t : Texts) (asked : Asked) (c : Composition) (head : Head) → Mean asked.width t (Ok c)
    → header_of_head head ≡ c.head → IsSoundOf t asked.width (wav_of (frames_of c) head asked.width)
sound_is t asked c head mean same = record { c = c; means = mean; head = head; head_is = same; is = refl }

module _ {F K T B C : Type 0} (see : Sight F K T B C) (words : List Text) (before now : Scene F K T B C) where
  abbrev meters : List ℕ
  meters = meter_lines see.line now.taps

  abbrev a : Outside
  a = told_in see before

  abbrev b : Outside
  b = told_in see now

  abbrev Page : Status → Type 0
  Page s = Ends words meters a b s

  -- NO PIECE

  not_sounded : (r : Refusal) → Reads words (λ x. HasLoaded see x before now (Err r)) → now.wav ≡ before.wav
      → Says a.talk b.talk (message_of (refusal r) []) → Page (refusal r)
  not_sounded r h same says =
      let l : HasLoaded see h.0 before now (Err r) = h.2 in
      refused h.0 l.means.texts r (record { asked = h.1; fit = l.means.fit; have = l.means.have; same = l.same })
      l.means.mean (ap see.wav same) says

  -- A COMPOSITION

  module _ (asked : Asked) (e : reading words ≡ Some asked) (c : Composition)
      (l : HasLoaded see asked before now (Ok c)) where
    was_read : HasRead words a.shelf b.shelf asked l.means.texts
    was_read = record { asked = e; fit = l.means.fit; have = l.means.have; same = l.same }

    -- its sound, complete, or with `-n` not written
    whole : WasPerformed see asked c before now
        → Sounds asked.silent asked l.means.texts a.file b.file (Finished a.file b.file asked.sound_file)
    whole p = by asked.silent p.whole.written
      where
        by : (silent : Bool)
            → IfWritten see.wav (output_of silent) before.wav now.wav
            (λ x y. Finished x y asked.sound_file (wav_of (frames_of c) p.head asked.width))
            → Sounds silent asked l.means.texts a.file b.file (Finished a.file b.file asked.sound_file)
        by true w = ap see.wav w
        by false w = (
          wav_of (frames_of c) p.head asked.width,
          sound_is l.means.texts asked c p.head l.means.mean p.head_is,
          w,
        )

  -- The file after memory ran out: no call was made on it, or it has a prefix of the sound.
  abbrev CutOff : Type 0
  CutOff = (b.file ≡ a.file) ⊎ ((x : Asked) × (t : Texts) × (sound front : List ℕ) × HasRead words a.shelf b.shelf x t
      × IsSoundOf t x.width sound × IsFront front sound × (x.silent ≡ false) × Wrote a.file b.file x.sound_file front)

  module _ (fronts : AreFronts) where
    partly : (asked : Asked) → reading words ≡ Some asked → IsSinkFault see asked before now → Page status.SinkFault
    partly asked e one =
        let sound : List ℕ = wav_of (frames_of one.c) one.performed.head asked.width in
        let front : List ℕ = file_after one.c one.performed.head asked.width one.performed.part.cycles in
        let stopped : Stopped a.file b.file asked.sound_file front =
        written_is see.wav asked.silent before.wav now.wav (λ x y. Stopped x y asked.sound_file front) one.written
        one.performed.part.written in
        unwritten asked one.loaded.means.texts sound (was_read asked e one.c one.loaded)
        (sound_is one.loaded.means.texts asked one.c one.performed.head one.loaded.means.mean one.performed.head_is)
        one.written
        (stopped_longer a.file b.file asked.sound_file front sound
        (fronts one.c one.performed.head asked.width one.performed.part.cycles one.performed.part.within) stopped)
        one.rose one.line

    cut_by : (asked : Asked) → reading words ≡ Some asked → (one : IsCutShort see asked before now) (silent : Bool)
        → asked.silent ≡ silent
        → IfWritten see.wav (output_of silent) before.wav now.wav
        (λ x y. ((one.performed.paused.cycles ≡ 0) × (now.wav ≡ before.wav))
        ⊎ Wrote x y asked.sound_file
        (front_after one.c one.performed.head asked.width one.performed.paused.cycles))
        → CutOff
    cut_by asked e one true is w = inl (ap see.wav w)
    cut_by asked e one false is w =
        ⊎_elim (λ none. inl (ap see.wav none.1))
        (λ wrote. inr (
          asked,
          one.loaded.means.texts,
          wav_of (frames_of one.c) one.performed.head asked.width,
          front_after one.c one.performed.head asked.width one.performed.paused.cycles,
          was_read asked e one.c one.loaded,
          sound_is one.loaded.means.texts asked one.c one.performed.head one.loaded.means.mean one.performed.head_is,
          front_is fronts one.c one.performed.head asked.width one.performed.paused.cycles
              one.performed.paused.within,
          is,
          wrote,
        )) w

    cut_short : (asked : Asked) → reading words ≡ Some asked → IsCutShort see asked before now → CutOff
    cut_short asked e one = cut_by asked e one asked.silent refl one.performed.paused.written

    starving : IsStarved see words before now → Page status.OutOfMemory
    starving h =
        starved h.calm (⊎_elim (λ same. inl (ap see.wav same.wav)) (λ r. cut_short r.0 r.1 r.2) h.performed) h.line

    -- HOW IT ENDS
    paged : (s : Status) → EndsBy see s words before now → Page s
    paged status.Ok h = played h.0 h.2.loaded.means.texts h.2.c (was_read h.0 h.1 h.2.c h.2.loaded)
        h.2.loaded.means.mean (whole h.0 h.1 h.2.c h.2.loaded h.2.performed) h.2.report
    paged status.TalkFault h = unsaid h.0 h.2.loaded.means.texts h.2.c (was_read h.0 h.1 h.2.c h.2.loaded)
        h.2.loaded.means.mean (whole h.0 h.1 h.2.c h.2.loaded h.2.performed) h.2.report
    paged status.SinkFault h = partly h.0 h.1 h.2
    paged status.OutOfMemory h = starving h
    paged status.Usage h = usage h.unprepared.cause.0 (ap see.shelf h.unprepared.cause.1)
        (ap see.wav h.untouched.wav) h.unprepared.line
    paged status.ShelfFault h = unread h.unprepared.cause.0 h.unprepared.name h.unprepared.cause.1
        h.unprepared.cause.2 (ap see.wav h.untouched.wav) h.unprepared.line
    paged (status.OrcRefused f) h = not_sounded (why.Orc f) h.unprepared.cause h.untouched.wav h.unprepared.line
    paged (status.ScoreRefused f) h = not_sounded (why.Score f) h.unprepared.cause h.untouched.wav h.unprepared.line
    paged (status.Limit l) h = not_sounded (why.Limit l) h.unprepared.cause h.untouched.wav h.unprepared.line
    paged (status.CsdRefused f) h = not_sounded (why.Csd f) h.unprepared.cause h.untouched.wav h.unprepared.line

    pub on_the_page : (s : Status) → IsProgramRun see words s before now → Ends words meters a b s
    on_the_page s run = paged s run.ended

-- WHERE A CALL FAILED, by the page

same_told : (x y : Outside) → y.file ≡ x.file → y.file.faults ≡ x.file.faults
same_told x y e = ap (λ (k : SinkTold). k.faults) e

sounds_calm : (silent : Bool) (asked : Asked) (t : Texts) (x y : SinkTold)
    → Sounds silent asked t x y (Finished x y asked.sound_file) → y.faults ≡ x.faults
sounds_calm true asked t x y e = ap (λ (k : SinkTold). k.faults) e
sounds_calm false asked t x y h = h.2.same

module _ {words : List Text} {meters : List ℕ} {x y : Outside} where
  pub shelf_decides : {s : Status} → Ends words meters x y s → y.shelf.faults ≢ x.shelf.faults → s ≡ status.ShelfFault
  shelf_decides (usage none same file says) n = absurd (n (ap (λ (k : ShelfTold). k.faults) same))
  shelf_decides (unread asked name e cannot file says) n = refl
  shelf_decides (refused asked t r read mean file says) n = absurd (n read.same)
  shelf_decides (played asked t c read mean file said) n = absurd (n read.same)
  shelf_decides (unsaid asked t c read mean file said) n = absurd (n read.same)
  shelf_decides (unwritten asked t sound read is loud file rose says) n = absurd (n read.same)
  shelf_decides (starved same file says) n = absurd (n same)

  pub file_decides : {s : Status} → Ends words meters x y s → y.file.faults ≢ x.file.faults → s ≡ status.SinkFault
  file_decides (usage none same file says) n = absurd (n (same_told x y file))
  file_decides (unread asked name e cannot file says) n = absurd (n (same_told x y file))
  file_decides (refused asked t r read mean file says) n = absurd (n (same_told x y file))
  file_decides (played asked t c read mean file said) n =
      absurd (n (sounds_calm asked.silent asked t x.file y.file file))
  file_decides (unsaid asked t c read mean file said) n =
      absurd (n (sounds_calm asked.silent asked t x.file y.file file))
  file_decides (unwritten asked t sound read is loud file rose says) n = refl
  file_decides (starved same file says) n =
      absurd (⊎_elim (λ e. n (same_told x y e)) (λ h. n h.8.same) file)

  pub talk_decides : {s : Status} → Ends words meters x y s → y.talk.faults ≢ x.talk.faults → s ≢ status.Ok
  talk_decides (usage none same file says) n e = cc
  talk_decides (unread asked name h cannot file says) n e = cc
  talk_decides (refused asked t r read mean file says) n e = not_refused r e
    where
      not_refused : (q : Refusal) → refusal q ≡ status.Ok → ⊥
      not_refused (why.Csd f) d = cc
      not_refused (why.Orc f) d = cc
      not_refused (why.Score f) d = cc
      not_refused (why.Limit f) d = cc
  talk_decides (played asked t c read mean file said) n e = n said.same
  talk_decides (unsaid asked t c read mean file said) n e = cc
  talk_decides (unwritten asked t sound read is loud file rose says) n e = cc
  talk_decides (starved same file says) n e = cc
