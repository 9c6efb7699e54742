-- What two runs have in common.
use Rattle.std.proofs.Common.{◌≡◌, ◌≢◌, ℕ, ℤ, List, [], Bool, true, false, ◌++◌, Option, Result, Some, None, Ok, Err}
use Rattle.std.proofs.Common.{ap, sym, subst, ◌∙◌, ⊎_elim, if◌then◌else◌}
use Rattle.cs_base.specs.{declared.head.Head.Head, declared.refusal.Refusal.Refusal}
use Rattle.cs_base.specs.declared.width.SampleWidth.{SampleWidth}
use Rattle.cs_piece_meaning.specs.{Heard.frames_of, Moments.Composition}
use Rattle.cs_edge.specs.{Files.ShelfTold, Told.Follows, declared.files.NamedBytes.NamedBytes}
use Rattle.cs_edge.specs.Moves.{Finished, Held, SinkTold, ended_file}
use Rattle.cs_perform.specs.Hearing.{IfWritten}
use Rattle.cs_turns.specs.Turns.{turn_lines_of}
use Rattle.cs_play.specs.Alike.{AskAlike, HadNoFault, HoldAlike, SoundAlike, TellAlike}
use Rattle.cs_play.specs.Endings.{IsOk, WasPerformed, output_of, report_in}
use Rattle.cs_play.specs.{Report.counts_of, Report.meter_lines, Runs.IsProgramRun, Scene.Scene, Scene.Sight}
use Rattle.cs_report.specs.{Status.refusal, declared.status.Status.Status}
use Rattle.cs_arguments.specs.Reading.{Asked, AskedPiece, Text, demo, one_file, reading, two_files}
use Rattle.cs_source.specs.{Loaded.CannotRead, Loaded.SourceMeans, Texts.LackWhereTold}
use Rattle.cs_typed.specs.{Places.Header, TypedTree.header_of_head}
use Rattle.cs_wav.specs.Wav.{header_bytes, wav_of}
use Rattle.cs_play.proofs.Deciding.{EndedBy, by_memory, by_name, by_refusal, by_sound, by_words, ended_by, loaded}
use Rattle.cs_play.proofs.Deciding.{no_asked, the_asked, unread}
use Rattle.cs_play.proofs.Meanings.{NoneLacking, OneMeaning, OnePair, alike_means, refused_composition}
use Rattle.cs_play.proofs.Meanings.{same_composition, same_refusal, source_lacks}
use Rattle.cs_report.specs.declared.status.Status.TheVariants as status

-- THE SAME FILE

-- a sink that tells its contents has these bytes
abbrev HoldsWhereTold : Option Held → List ℕ → Type 0
HoldsWhereTold None bytes = Unit {0}
HoldsWhereTold (Some x) bytes = x.bytes ≡ bytes

held_is : (b n : Option Held) (h : Held) → Follows b n (λ _ x. x ≡ h) → HoldsWhereTold n h.bytes
held_is b None h f = tt
held_is None (Some x) h f = absurd f
held_is (Some y) (Some x) h f = ap (λ (k : Held). k.bytes) f

held_alike : (a b : Option Held) (bytes : List ℕ) → HoldsWhereTold a bytes → HoldsWhereTold b bytes → HoldAlike a b
held_alike None b bytes p q = tt
held_alike (Some x) None bytes p q = tt
held_alike (Some x) (Some y) bytes p q = p ∙ sym q

file_held : (before now : SinkTold) (name bytes : List ℕ) → Finished before now name bytes
    → HoldsWhereTold now.held bytes
file_held before now name bytes f = held_is before.held now.held (ended_file name bytes) f.taken

-- the sound file of a run that isn't silent
pub written_is : {W : Type 0} (tells : W → SinkTold) (silent : Bool) (before now : W) (P : SinkTold → SinkTold → Type 0)
    → silent ≡ false
    → IfWritten tells (output_of silent) before now P → P (tells before) (tells now)
written_is tells true before now P e w = absurd (let h : true ≡ false = e in cc)
written_is tells false before now P e w = w

-- a file is determined by its frames and by the numbers of its header
same_numbers : (frames : List ℤ) (width : SampleWidth) (a b : Head) → a.sr ≡ b.sr → a.nchnls ≡ b.nchnls
    → a.dbfs ≡ b.dbfs → wav_of frames a width ≡ wav_of frames b width
unfolding wav_of header_bytes
same_numbers frames width a b e f g = cc

pub same_wav : (frames : List ℤ) (width : SampleWidth) (a b : Head) → header_of_head a ≡ header_of_head b
    → wav_of frames a width ≡ wav_of frames b width
same_wav frames width a b e =
    same_numbers frames width a b (ap (λ (h : Header). h.sr) e) (ap (λ (h : Header). h.nchnls) e)
    (ap (λ (h : Header). h.dbfs) e)

-- what a source means, for two requests for the same piece
means_as : (told : ShelfTold) (a b : Asked) (r : Result Composition Refusal) → AskAlike a b
    → SourceMeans told b.width b.piece r
    → SourceMeans told a.width a.piece r
means_as told a b r alike means = rw (alike.width, alike.piece) means

module _ {F K T B C F' K' T' B' C' : Type 0} (see : Sight F K T B C) (see' : Sight F' K' T' B' C') where
  one_sound : (a b : Asked) (c : Composition) (before now : Scene F K T B C) (before' now' : Scene F' K' T' B' C')
      → AskAlike a b
      → WasPerformed see a c before now → WasPerformed see' b c before' now' → a.silent ≡ false → b.silent ≡ false
      → HoldAlike (see.wav now.wav).held (see'.wav now'.wav).held
  one_sound a b c before now before' now' alike p q loud loud' =
      let first : HoldsWhereTold (see.wav now.wav).held (wav_of (frames_of c) p.head a.width) =
      file_held (see.wav before.wav) (see.wav now.wav) a.sound_file (wav_of (frames_of c) p.head a.width)
      (written_is see.wav a.silent before.wav now.wav
      (λ x y. Finished x y a.sound_file (wav_of (frames_of c) p.head a.width)) loud p.whole.written) in
      let second : HoldsWhereTold (see'.wav now'.wav).held (wav_of (frames_of c) q.head b.width) =
      file_held (see'.wav before'.wav) (see'.wav now'.wav) b.sound_file (wav_of (frames_of c) q.head b.width)
      (written_is see'.wav b.silent before'.wav now'.wav
      (λ x y. Finished x y b.sound_file (wav_of (frames_of c) q.head b.width)) loud' q.whole.written) in
      let W : SampleWidth → Type 0 = λ w. wav_of (frames_of c) q.head w ≡ wav_of (frames_of c) p.head a.width in
      let same : wav_of (frames_of c) q.head b.width ≡ wav_of (frames_of c) p.head a.width =
      subst W alike.width (same_wav (frames_of c) a.width q.head p.head (q.head_is ∙ sym p.head_is)) in
      held_alike (see.wav now.wav).held (see'.wav now'.wav).held (wav_of (frames_of c) p.head a.width) first
      (subst (HoldsWhereTold (see'.wav now'.wav).held) same second)

  -- THE SAME REPORT
  one_report : (a b : Asked) (c : Composition) (now : Scene F K T B C) (now' : Scene F' K' T' B' C') → a.width ≡ b.width
      → a.turns ≡ b.turns
      → meter_lines see.line now.taps ≡ meter_lines see'.line now'.taps
      → report_in see a c now ≡ report_in see' b c now'
  one_report a b c now now' w t m = λ i. counts_of c (w i) ++ m i ++ (if t i then turn_lines_of c else [])

  both_ok : OneMeaning → OnePair → (a b : Asked) (before now : Scene F K T B C) (before' now' : Scene F' K' T' B' C')
      → AskAlike a b
      → TellAlike a.piece (see.shelf before.shelf).files (see'.shelf before'.shelf).files → IsOk see a before now
      → IsOk see' b before' now'
      → SoundAlike see see' a b before now before' now'
  both_ok m p a b before now before' now' alike told x y =
      let same : x.c ≡ y.c = same_composition x.c y.c
      (alike_means m p (see.shelf before.shelf) (see'.shelf before'.shelf) a.width a.piece (Ok x.c) (Ok y.c) told
      x.loaded.means
      (means_as (see'.shelf before'.shelf) a b (Ok y.c) alike y.loaded.means)) in
      let second : WasPerformed see' b x.c before' now' = rw same y.performed in
      record {
        c = x.c;
        means = x.loaded.means;
        means' = rw same y.loaded.means;
        performed = x.performed;
        performed' = second;
        report = x.report;
        report' = rw same y.report;
        same_report = one_report a b x.c now now' alike.width;
        bytes = one_sound a b x.c before now before' now' alike x.performed second;
      }

  pub alike : OneMeaning → OnePair
      → (words others : List Text) (a b : Asked) (before now : Scene F K T B C) (before' now' : Scene F' K' T' B' C')
      → reading words ≡ Some a → reading others ≡ Some b → AskAlike a b
      → TellAlike a.piece (see.shelf before.shelf).files (see'.shelf before'.shelf).files
      → IsProgramRun see words status.Ok before now → IsProgramRun see' others status.Ok before' now'
      → SoundAlike see see' a b before now before' now'
  alike m p words others a b before now before' now' e h ask told run run' =
      both_ok m p a b before now before' now' ask told
      (the_asked words (λ x. IsOk see x before now) a e run.ended)
      (the_asked others (λ x. IsOk see' x before' now') b h run'.ended)

-- THE SAME STATUS

-- How a run ended in which nothing failed and memory sufficed: with the sound, with a refusal or with a
-- missing name.
pub data EndedFor (told : ShelfTold) (asked : Asked) (s : Status) : Type 0 where
  sounding : (c : Composition) → s ≡ status.Ok → SourceMeans told asked.width asked.piece (Ok c) → EndedFor told asked s
  refusing : (r : Refusal) → s ≡ refusal r → SourceMeans told asked.width asked.piece (Err r) → EndedFor told asked s
  missing : (name : List ℕ) → s ≡ status.ShelfFault → LackWhereTold told.files asked.piece name → EndedFor told asked s

module _ {F K T B C : Type 0} (see : Sight F K T B C) (words : List Text) (asked : Asked) (before now : Scene F K T B C)
    (e : reading words ≡ Some asked) (calm : HadNoFault see before now) where
  abbrev Ended : Status → Type 0
  Ended s = EndedFor (see.shelf before.shelf) asked s

  missing_for : (s : Status) (name : List ℕ) → s ≡ status.ShelfFault
      → CannotRead (see.shelf before.shelf) (see.shelf now.shelf) asked.piece name → Ended s
  missing_for s name is unread = ⊎_elim (λ rose. absurd (calm.shelf rose)) (λ lack. missing name is lack) unread.cause

  ended_for : (s : Status) → s ≢ status.OutOfMemory → EndedBy see words before now s → Ended s
  ended_for s m (by_sound c h is) =
      sounding c (⊎_elim (λ ok. ok) (λ rose. absurd (⊎_elim calm.wav calm.talk rose)) is)
      (loaded see words before now asked e (Ok c) h)
  ended_for s m (by_refusal r is h) = refusing r is (loaded see words before now asked e (Err r) h)
  ended_for s m (by_name name is h) = missing_for s name is (unread see words before now asked e name h)
  ended_for s m (by_words is none) = absurd (no_asked (reading words) asked none e)
  ended_for s m (by_memory is) = absurd (m is)

-- if one of two shelves that tell the same lacks a name, so does the other
lack_there : (piece : AskedPiece) (a b : Option (List NamedBytes)) (name : List ℕ) → TellAlike piece a b
    → LackWhereTold b piece name → LackWhereTold a piece name
lack_there (demo n) a None name told lack = absurd lack
lack_there (demo n) a (Some files) name told lack = absurd lack
lack_there (two_files orc sco) a b name told lack = rw told.1 (rw told.2 at lack)
lack_there (one_file csd) a b name told lack = rw told.1 (rw told.2 at lack)

lack_here : (piece : AskedPiece) (a b : Option (List NamedBytes)) (name : List ℕ) → TellAlike piece a b
    → LackWhereTold a piece name → LackWhereTold b piece name
lack_here (demo n) None b name told lack = absurd lack
lack_here (demo n) (Some files) b name told lack = absurd lack
lack_here (two_files orc sco) a b name told lack = rw told.2 (rw told.1 at lack)
lack_here (one_file csd) a b name told lack = rw told.2 (rw told.1 at lack)

module _ (m : OneMeaning) (p : OnePair) (none : NoneLacking) (told told' : ShelfTold) (asked : Asked)
    (both_tell : TellAlike asked.piece told.files told'.files) where
  no_sound : (c : Composition) (r : Refusal) → SourceMeans told asked.width asked.piece (Ok c)
      → SourceMeans told' asked.width asked.piece (Err r) → ⊥
  no_sound c r h k = refused_composition c r
      (alike_means m p told told' asked.width asked.piece (Ok c) (Err r) both_tell h k)

  no_refusal : (r : Refusal) (c : Composition) → SourceMeans told asked.width asked.piece (Err r)
      → SourceMeans told' asked.width asked.piece (Ok c) → ⊥
  no_refusal r c h k = refused_composition c r
      (sym (alike_means m p told told' asked.width asked.piece (Err r) (Ok c) both_tell h k))

  no_lack : (r : Result Composition Refusal) (name : List ℕ) → SourceMeans told asked.width asked.piece r
      → LackWhereTold told'.files asked.piece name → ⊥
  no_lack r name h k = source_lacks none told asked.width asked.piece r name h
      (lack_there asked.piece told.files told'.files name both_tell k)

  no_meaning : (r : Result Composition Refusal) (name : List ℕ) → LackWhereTold told.files asked.piece name
      → SourceMeans told' asked.width asked.piece r → ⊥
  no_meaning r name h k = source_lacks none told' asked.width asked.piece r name k
      (lack_here asked.piece told.files told'.files name both_tell h)

  same_end : (s t : Status) → EndedFor told asked s → EndedFor told' asked t → s ≡ t
  same_end s t (sounding c e h) (sounding d f k) = e ∙ sym f
  same_end s t (sounding c e h) (refusing r f k) = absurd (no_sound c r h k)
  same_end s t (sounding c e h) (missing name f k) = absurd (no_lack (Ok c) name h k)
  same_end s t (refusing r e h) (sounding d f k) = absurd (no_refusal r d h k)
  same_end s t (refusing r e h) (refusing q f k) =
      e ∙ ap refusal (same_refusal r q
      (alike_means m p told told' asked.width asked.piece (Err r) (Err q) both_tell h k)) ∙ sym f
  same_end s t (refusing r e h) (missing name f k) = absurd (no_lack (Err r) name h k)
  same_end s t (missing name e h) (sounding d f k) = absurd (no_meaning (Ok d) name h k)
  same_end s t (missing name e h) (refusing q f k) = absurd (no_meaning (Err q) name h k)
  same_end s t (missing name e h) (missing other f k) = e ∙ sym f

-- a run for the same request as another
as_asked : (told : ShelfTold) (a b : Asked) (s : Status) → AskAlike a b → EndedFor told b s → EndedFor told a s
as_asked told a b s alike (sounding c e h) = sounding c e (means_as told a b (Ok c) alike h)
as_asked told a b s alike (refusing r e h) = refusing r e (means_as told a b (Err r) alike h)
as_asked told a b s alike (missing name e h) =
    missing name e (rw alike.piece h)

module _ {F K T B C F' K' T' B' C' : Type 0} (see : Sight F K T B C) (see' : Sight F' K' T' B' C') where
  pub end_alike : OneMeaning → OnePair → NoneLacking
      → (words others : List Text) (s t : Status) (a b : Asked) (before now : Scene F K T B C)
      (before' now' : Scene F' K' T' B' C') → reading words ≡ Some a → reading others ≡ Some b → AskAlike a b
      → TellAlike a.piece (see.shelf before.shelf).files (see'.shelf before'.shelf).files
      → IsProgramRun see words s before now → IsProgramRun see' others t before' now' → HadNoFault see before now
      → HadNoFault see' before' now'
      → s ≢ status.OutOfMemory → t ≢ status.OutOfMemory → s ≡ t
  end_alike m p none words others s t a b before now before' now' e h ask told run run' calm calm' room room' =
      same_end m p none (see.shelf before.shelf) (see'.shelf before'.shelf) a told s t
      (ended_for see words a before now e calm s room (ended_by see words before now s run.ended))
      (as_asked (see'.shelf before'.shelf) a b t ask
      (ended_for see' others b before' now' h calm' t room' (ended_by see' others before' now' t run'.ended)))
