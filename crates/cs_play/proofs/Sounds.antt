-- The contents of a sink after a run: the sound of its texts, or a prefix of it.
use Rattle.std.proofs.Common.{◌≡◌, ◌⊎◌, ◌≤◌, ℕ, Bool, true, false, List, Option, Result, Some, None, Ok, Err, refl, ap}
use Rattle.std.proofs.Common.{sym, subst, ◌∙◌, ⊎_elim, inl, inr}
use Rattle.cs_base.specs.{declared.head.Head.Head, declared.refusal.Refusal.Refusal}
use Rattle.cs_base.specs.declared.width.SampleWidth.{SampleWidth}
use Rattle.cs_edge.specs.Moves.{Finished, Held, HoldsFront, SinkTold, Stopped, Wrote, ended_file, open_file}
use Rattle.cs_edge.specs.Told.{Follows, IsFront}
use Rattle.cs_perform.specs.{Hearing.IfWritten, Performances.file_after, Performances.front_after}
use Rattle.cs_edge.proofs.Chains.{front_of_front}
use Rattle.cs_perform.proofs.{Files.front_all, Wholes.front_in_file}
use Rattle.cs_piece_meaning.specs.{Heard.frames_of, Moments.Composition}
use Rattle.cs_play.specs.{Alike.AreTexts, Runs.IsProgramRun, Scene.Scene, Scene.Sight, Sounds.HoldsSoundFront}
use Rattle.cs_play.specs.Endings.{EndsBy, HasLoaded, IsCutShort, IsOk, IsSinkFault, IsTalkFault, WasPartlyPerformed}
use Rattle.cs_play.specs.Endings.{WasPaused, WasPerformed, output_of}
use Rattle.cs_report.specs.declared.status.Status.{Status}
use Rattle.cs_arguments.specs.Reading.{Asked, Text, reading}
use Rattle.cs_source.specs.{Meaning.Mean, Sounds.IsSoundOf, Texts.Texts}
use Rattle.cs_typed.specs.TypedTree.{header_of_head}
use Rattle.cs_wav.specs.Wav.{wav_of}
use Rattle.cs_play.proofs.{Deciding.the_asked, Meanings.same_refusal, TwoRuns.same_wav, TwoRuns.written_is}
use Rattle.cs_play.proofs.Meanings.{OneMeaning, OnePair, known_means, refused_composition, same_composition}
use Rattle.cs_report.specs.declared.status.Status.TheVariants as status

-- ONE SOUND OR ONE REFUSAL

abbrev pub SomeMeaning : Type 0
SomeMeaning = (width : SampleWidth) (t : Texts) → (r : Result Composition Refusal) × Mean width t r

abbrev pub HaveHeads : Type 0
HaveHeads = (width : SampleWidth) (t : Texts) (c : Composition) → Mean width t (Ok c)
    → (head : Head) × (header_of_head head ≡ c.head)

pub sound_or_refusal : SomeMeaning → HaveHeads → (t : Texts) (width : SampleWidth)
    → ((bytes : List ℕ) × IsSoundOf t width bytes) ⊎ ((r : Refusal) × Mean width t (Err r))
sound_or_refusal some heads t width = let m = some width t in by m.0 m.1
  where
    by : (r : Result Composition Refusal) → Mean width t r
        → ((bytes : List ℕ) × IsSoundOf t width bytes) ⊎ ((q : Refusal) × Mean width t (Err q))
    by (Ok c) h =
        let head = heads width t c h in
        inl (wav_of (frames_of c) head.0 width, record { c = c; means = h; head = head.0; head_is = head.1; is = refl })
    by (Err q) h = inr (q, h)

same_sound : (c d : Composition) (a b : Head) (width : SampleWidth) → c ≡ d → header_of_head a ≡ c.head
    → header_of_head b ≡ d.head
    → wav_of (frames_of c) a width ≡ wav_of (frames_of d) b width
same_sound c d a b width e f g =
    same_wav (frames_of c) width a b (f ∙ (ap (λ (x : Composition). x.head) e ∙ sym g))
    ∙ ap (λ (x : Composition). wav_of (frames_of x) b width) e

pub one_sound : OneMeaning → (t : Texts) (width : SampleWidth) (a b : List ℕ) → IsSoundOf t width a
    → IsSoundOf t width b → a ≡ b
one_sound one t width a b x y =
    x.is ∙ (same_sound x.c y.c x.head y.head width
    (same_composition x.c y.c (one width t (Ok x.c) (Ok y.c) x.means y.means)) x.head_is y.head_is ∙ sym y.is)

pub one_refusal : OneMeaning → (t : Texts) (width : SampleWidth) (r s : Refusal) → Mean width t (Err r)
    → Mean width t (Err s) → r ≡ s
one_refusal one t width r s h k = same_refusal r s (one width t (Err r) (Err s) h k)

pub never_both : OneMeaning → (t : Texts) (width : SampleWidth) (bytes : List ℕ) (r : Refusal) → IsSoundOf t width bytes
    → Mean width t (Err r) → ⊥
never_both one t width bytes r x h = refused_composition x.c r (one width t (Ok x.c) (Err r) x.means h)

-- PREFIXES OF A FILE

abbrev pub AreFronts : Type 0
AreFronts = (c : Composition) (head : Head) (width : SampleWidth) (n : ℕ) → n ≤ c.cycles
    → IsFront (file_after c head width n) (wav_of (frames_of c) head width)

-- the header and the samples of the first cycles are a prefix of the file
pub front_is : AreFronts → (c : Composition) (head : Head) (width : SampleWidth) (n : ℕ) → n ≤ c.cycles
    → IsFront (front_after c head width n) (wav_of (frames_of c) head width)
front_is fronts c head width n le =
    front_of_front (front_after c head width n) (file_after c head width n) (wav_of (frames_of c) head width)
    (front_in_file c head width n)
    (fronts c head width n le)

-- THE CONTENTS OF A SINK that was written

some_is : (x y : Held) → Some x ≡ Some y → x ≡ y
some_is x y e = cc

-- what is told afterwards was told before, and the two go together
told_both : (P : Held → Held → Type 0) (a b : Option Held) (y : Held) → b ≡ Some y → Follows a b P
    → (x : Held) × (a ≡ Some x) × P x y
told_both P None None y e f = absurd (cc)
told_both P (Some x) None y e f = absurd (cc)
told_both P None (Some z) y e f = absurd f
told_both P (Some x) (Some z) y e f = (x, refl, subst (P x) (some_is z y e) f)

-- the known contents of a sink that tells them
finished_is : (before now : SinkTold) (y : Held) (name bytes : List ℕ) → now.held ≡ Some y
    → Finished before now name bytes → y ≡ ended_file name bytes
finished_is before now y name bytes e h =
    (told_both (λ _ k. k ≡ ended_file name bytes) before.held now.held y e h.taken).2

wrote_is : (before now : SinkTold) (y : Held) (name bytes : List ℕ) → now.held ≡ Some y → Wrote before now name bytes
    → y ≡ open_file name bytes
wrote_is before now y name bytes e h =
    (told_both (λ _ k. k ≡ open_file name bytes) before.held now.held y e h.taken).2

module _ (t : Texts) (asked : Asked) (c : Composition) (head : Head) (means : Mean asked.width t (Ok c))
    (head_is : header_of_head head ≡ c.head) where
  abbrev sound : List ℕ
  sound = wav_of (frames_of c) head asked.width

  is_sound : IsSoundOf t asked.width sound
  is_sound = record { c = c; means = means; head = head; head_is = head_is; is = refl }

  sound_front : (a : Option Held) (y : Held) (bytes : List ℕ) → y.name ≡ Some asked.sound_file → y.bytes ≡ bytes
      → IsFront bytes sound
      → HoldsSoundFront t asked a y
  sound_front a y bytes e f front =
      inr (inr (e, sound, is_sound, subst (λ (l : List ℕ). IsFront l sound) (sym f) front))

  finished_front : (before now : SinkTold) (y : Held) → now.held ≡ Some y → Finished before now asked.sound_file sound
      → HoldsSoundFront t asked before.held y
  finished_front before now y e h =
      let is = finished_is before now y asked.sound_file sound e h in
      sound_front before.held y sound (ap (λ (k : Held). k.name) is) (ap (λ (k : Held). k.bytes) is) (front_all sound)

  wrote_front : (before now : SinkTold) (y : Held) (bytes : List ℕ) → now.held ≡ Some y → IsFront bytes sound
      → Wrote before now asked.sound_file bytes → HoldsSoundFront t asked before.held y
  wrote_front before now y bytes e front h =
      let is = wrote_is before now y asked.sound_file bytes e h in
      sound_front before.held y bytes (ap (λ (k : Held). k.name) is) (ap (λ (k : Held). k.bytes) is) front

  stopped_front : (before now : SinkTold) (y : Held) (bytes : List ℕ) → now.held ≡ Some y → IsFront bytes sound
      → Stopped before now asked.sound_file bytes → HoldsSoundFront t asked before.held y
  stopped_front before now y bytes e front h =
      let is = told_both (HoldsFront asked.sound_file bytes) before.held now.held y e h.taken in
      ⊎_elim (λ same. inl (is.1 ∙ ap (λ (k : Held). Some k) (sym same)))
      (λ begun. ⊎_elim (λ none. inr (inl (ap (λ (k : Held). k.name) none, ap (λ (k : Held). k.bytes) none)))
      (λ some. sound_front before.held y some.0 (ap (λ (k : Held). k.name) some.2) (ap (λ (k : Held). k.bytes) some.2)
      (front_of_front some.0 bytes sound some.1 front)) begun)
      is.2

-- AFTER A RUN

module _ {F K T B C : Type 0} (see : Sight F K T B C) (pair : OnePair) (words : List Text)
    (before now : Scene F K T B C) (asked : Asked) (t : Texts)
    (e : reading words ≡ Some asked) (known : AreTexts (see.shelf before.shelf).files asked.piece t) (y : Held)
    (holds : (see.wav now.wav).held ≡ Some y) where
  meant : (c : Composition) → HasLoaded see asked before now (Ok c) → Mean asked.width t (Ok c)
  meant c loaded = known_means pair (see.shelf before.shelf) asked.width asked.piece t (Ok c) known loaded.means

  -- the file of a run that ended Ok
  pub file_is_sound : IsProgramRun see words status.Ok before now → asked.silent ≡ false
      → (y.name ≡ Some asked.sound_file) × (y.ended ≡ true) × IsSoundOf t asked.width y.bytes
  file_is_sound run loud =
      let one : IsOk see asked before now = the_asked words (λ a. IsOk see a before now) asked e run.ended in
      let bytes : List ℕ = wav_of (frames_of one.c) one.performed.head asked.width in
      let is = finished_is (see.wav before.wav) (see.wav now.wav) y asked.sound_file bytes holds
      (written_is see.wav asked.silent before.wav now.wav (λ b n. Finished b n asked.sound_file bytes) loud
      one.performed.whole.written) in (
        ap (λ (k : Held). k.name) is,
        ap (λ (k : Held). k.ended) is,
        record {
          c = one.c;
          means = meant one.c one.loaded;
          head = one.performed.head;
          head_is = one.performed.head_is;
          is = ap (λ (k : Held). k.bytes) is;
        },
      )

  abbrev Front : Type 0
  Front = HoldsSoundFront t asked (see.wav before.wav).held y

  untouched : now.wav ≡ before.wav → Front
  untouched same = inl (ap (λ (k : K). (see.wav k).held) (sym same) ∙ holds)

  -- if silence is asked for, the sink received no call
  written_front : (P : SinkTold → SinkTold → Type 0) → (P (see.wav before.wav) (see.wav now.wav) → Front)
      → IfWritten see.wav (output_of asked.silent) before.wav now.wav P → Front
  written_front P f w = by asked.silent w
    where
      by : (b : Bool) → IfWritten see.wav (output_of b) before.wav now.wav P → Front
      by true w = untouched w
      by false w = f w

  performed_front : (c : Composition) → HasLoaded see asked before now (Ok c) → WasPerformed see asked c before now
      → Front
  performed_front c loaded p =
      written_front (λ b n. Finished b n asked.sound_file (wav_of (frames_of c) p.head asked.width))
      (finished_front t asked c p.head (meant c loaded) p.head_is (see.wav before.wav) (see.wav now.wav) y holds)
      p.whole.written

  module _ (fronts : AreFronts) where
    partly_front : (c : Composition) → HasLoaded see asked before now (Ok c) → WasPartlyPerformed see asked c before now
        → Front
    partly_front c loaded p =
        let bytes : List ℕ = file_after c p.head asked.width p.part.cycles in
        written_front (λ b n. Stopped b n asked.sound_file bytes)
        (stopped_front t asked c p.head (meant c loaded) p.head_is (see.wav before.wav) (see.wav now.wav) y bytes holds
        (fronts c p.head asked.width p.part.cycles p.part.within)) p.part.written

    paused_front : (c : Composition) → HasLoaded see asked before now (Ok c) → WasPaused see asked c before now → Front
    paused_front c loaded p =
        let bytes : List ℕ = front_after c p.head asked.width p.paused.cycles in
        written_front (λ b n. ((p.paused.cycles ≡ 0) × (now.wav ≡ before.wav)) ⊎ Wrote b n asked.sound_file bytes)
        (λ h. ⊎_elim (λ none. untouched none.1)
        (λ w. wrote_front t asked c p.head (meant c loaded) p.head_is (see.wav before.wav) (see.wav now.wav) y bytes
        holds
        (front_is fronts c p.head asked.width p.paused.cycles p.paused.within) w) h) p.paused.written

    front_at : (s : Status) → EndsBy see s words before now → Front
    front_at status.Ok h =
        let one : IsOk see asked before now =
        the_asked words (λ a. IsOk see a before now) asked e h in performed_front one.c one.loaded one.performed
    front_at status.TalkFault h =
        let one : IsTalkFault see asked before now = the_asked words (λ a. IsTalkFault see a before now) asked e h in
        performed_front one.c one.loaded one.performed
    front_at status.SinkFault h =
        let one : IsSinkFault see asked before now = the_asked words (λ a. IsSinkFault see a before now) asked e h in
        partly_front one.c one.loaded one.performed
    front_at status.OutOfMemory h =
        ⊎_elim (λ same. untouched same.wav)
        (λ r. let one : IsCutShort see asked before now =
        the_asked words (λ a. IsCutShort see a before now) asked e r in
        paused_front one.c one.loaded one.performed) h.performed
    front_at s h = untouched h.untouched.wav

    pub holds_front : (s : Status) → IsProgramRun see words s before now → Front
    holds_front s run = front_at s run.ended
