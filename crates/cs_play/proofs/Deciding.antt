-- What decides how a run ends.
use Rattle.std.proofs.Common.{◌≡◌, ◌⊎◌, ℕ, List, Option, Result, Some, None, Ok, Err, refl, ap, sym, subst, ◌∙◌, ⊎_elim}
use Rattle.std.proofs.Common.{inl, inr}
use Rattle.cs_piece_meaning.specs.Moments.{Composition}
use Rattle.cs_edge.specs.Told.{Rose}
use Rattle.cs_play.specs.{Alike.AreTexts, Preparing.Reads, Runs.IsProgramRun, Scene.Scene, Scene.Sight}
use Rattle.cs_play.specs.Endings.{EndsBy, HasLoaded}
use Rattle.cs_report.specs.{Status.refusal, declared.status.Status.Status}
use Rattle.cs_arguments.specs.Reading.{Asked, Text, reading}
use Rattle.cs_source.specs.{Loaded.CannotRead, Loaded.SourceMeans, Meaning.Mean, Texts.LackWhereTold, Texts.Texts}
use Rattle.cs_base.specs.declared.refusal.Refusal.{Refusal}
use Rattle.cs_play.proofs.Meanings.{NoneLacking, OneMeaning, OnePair, known_unread, refused_composition, same_refusal}
use Rattle.cs_play.proofs.Meanings.{source_lacks, source_means}
use Rattle.cs_report.specs.declared.status.Status.TheVariants as status
use Rattle.cs_base.specs.declared.refusal.Refusal.TheVariants as why

one_asked : (o : Option Asked) (a b : Asked) → o ≡ Some a → o ≡ Some b → a ≡ b
one_asked o a b e h = cc

pub no_asked : (o : Option Asked) (a : Asked) → o ≡ None → o ≡ Some a → ⊥
no_asked o a e h = cc

-- what holds for some request that the arguments make holds for the one that they make
pub the_asked : (words : List Text) (P : Asked → Type 0) (asked : Asked) → reading words ≡ Some asked → Reads words P
    → P asked
the_asked words P asked e r = subst P (one_asked (reading words) r.0 asked r.1 e) r.2

-- How a run ended, by its arguments and its source: a composition, a refusal, a name that can't be read,
-- arguments without a reading; or memory ran out. A composition is heard and reported completely, unless a
-- sink failed.
pub data EndedBy {F K T B C : Type 0} (see : Sight F K T B C) (words : List Text) (before now : Scene F K T B C)
    (s : Status) : Type 0 where
  by_sound : (c : Composition) → Reads words (λ a. HasLoaded see a before now (Ok c))
      → (s ≡ status.Ok) ⊎ (Rose (see.wav before.wav).faults (see.wav now.wav).faults
      ⊎ Rose (see.talk before.talk).faults (see.talk now.talk).faults)
      → EndedBy see words before now s
  by_refusal : (r : Refusal) → s ≡ refusal r → Reads words (λ a. HasLoaded see a before now (Err r))
      → EndedBy see words before now s
  by_name : (name : List ℕ) → s ≡ status.ShelfFault
      → Reads words (λ a. CannotRead (see.shelf before.shelf) (see.shelf now.shelf) a.piece name)
      → EndedBy see words before now s
  by_words : s ≡ status.Usage → reading words ≡ None → EndedBy see words before now s
  by_memory : s ≡ status.OutOfMemory → EndedBy see words before now s

module _ {F K T B C : Type 0} (see : Sight F K T B C) (words : List Text) (before now : Scene F K T B C) where
  abbrev Ended : Status → Type 0
  Ended s = EndedBy see words before now s

  pub ended_by : (s : Status) → EndsBy see s words before now → EndedBy see words before now s
  ended_by status.Ok h = by_sound h.2.c (h.0, h.1, h.2.loaded) (inl refl)
  ended_by status.TalkFault h = by_sound h.2.c (h.0, h.1, h.2.loaded) (inr (inr h.2.report.rose))
  ended_by status.SinkFault h = by_sound h.2.c (h.0, h.1, h.2.loaded) (inr (inl h.2.rose))
  ended_by status.OutOfMemory h = by_memory refl
  ended_by status.ShelfFault h = by_name h.unprepared.name refl h.unprepared.cause
  ended_by status.Usage h = by_words refl h.unprepared.cause.0
  ended_by (status.OrcRefused f) h = by_refusal (why.Orc f) refl h.unprepared.cause
  ended_by (status.ScoreRefused f) h = by_refusal (why.Score f) refl h.unprepared.cause
  ended_by (status.Limit l) h = by_refusal (why.Limit l) refl h.unprepared.cause
  ended_by (status.CsdRefused f) h = by_refusal (why.Csd f) refl h.unprepared.cause

  -- ARGUMENTS without a reading
  asks_nothing : reading words ≡ None → (P : Asked → Type 0) → Reads words P → ⊥
  asks_nothing e P h = no_asked (reading words) h.0 e h.1

  unread_ends : (s : Status) → reading words ≡ None → Ended s → (s ≡ status.Usage) ⊎ (s ≡ status.OutOfMemory)
  unread_ends s e (by_sound c h is) = absurd (asks_nothing e (λ a. HasLoaded see a before now (Ok c)) h)
  unread_ends s e (by_refusal r is h) = absurd (asks_nothing e (λ a. HasLoaded see a before now (Err r)) h)
  unread_ends s e (by_name name is h) =
      absurd (asks_nothing e (λ a. CannotRead (see.shelf before.shelf) (see.shelf now.shelf) a.piece name) h)
  unread_ends s e (by_words is none) = inl is
  unread_ends s e (by_memory is) = inr is

  -- ARGUMENTS with this reading
  module _ (asked : Asked) (e : reading words ≡ Some asked) where
    pub loaded : (r : Result Composition Refusal) → Reads words (λ a. HasLoaded see a before now r)
        → SourceMeans (see.shelf before.shelf) asked.width asked.piece r
    loaded r h = (the_asked words (λ a. HasLoaded see a before now r) asked e h).means

    pub unread : (name : List ℕ)
        → Reads words (λ a. CannotRead (see.shelf before.shelf) (see.shelf now.shelf) a.piece name)
        → CannotRead (see.shelf before.shelf) (see.shelf now.shelf) asked.piece name
    unread name h = the_asked words (λ a. CannotRead (see.shelf before.shelf) (see.shelf now.shelf) a.piece name) asked
        e h

    -- A NAME that is missing: nothing was loaded
    lacking_ends : NoneLacking → (s : Status) (name : List ℕ)
        → LackWhereTold (see.shelf before.shelf).files asked.piece name → Ended s
        → (s ≡ status.ShelfFault) ⊎ (s ≡ status.OutOfMemory)
    lacking_ends none s name lack (by_sound c h is) =
        absurd (source_lacks none (see.shelf before.shelf) asked.width asked.piece (Ok c) name (loaded (Ok c) h) lack)
    lacking_ends none s name lack (by_refusal r is h) =
        absurd (source_lacks none (see.shelf before.shelf) asked.width asked.piece (Err r) name (loaded (Err r) h) lack)
    lacking_ends none s name lack (by_name other is h) = inl is
    lacking_ends none s name lack (by_words is blank) = absurd (no_asked (reading words) asked blank e)
    lacking_ends none s name lack (by_memory is) = inr is

    -- TEXTS that are known: what was loaded is what they mean, and the shelf can't read them only if it
    -- failed
    module _ (meaning : OneMeaning) (pair : OnePair) (none : NoneLacking) (t : Texts)
        (known : AreTexts (see.shelf before.shelf).files asked.piece t)
        (calm : ¬ (Rose (see.shelf before.shelf).faults (see.shelf now.shelf).faults)) where
      same : (r q : Result Composition Refusal) → Mean asked.width t r → Reads words (λ a. HasLoaded see a before now q)
          → r ≡ q
      same r q mean h = source_means meaning pair (see.shelf before.shelf) asked.width asked.piece t r q known mean
          (loaded q h)

      is_read : (name : List ℕ)
          → Reads words (λ a. CannotRead (see.shelf before.shelf) (see.shelf now.shelf) a.piece name) → ⊥
      is_read name h = calm (known_unread none (see.shelf before.shelf) (see.shelf now.shelf) asked.piece t name known
          (unread name h))

      refusal_ends : (s : Status) (r : Refusal) → Mean asked.width t (Err r) → Ended s
          → (s ≡ refusal r) ⊎ (s ≡ status.OutOfMemory)
      refusal_ends s r mean (by_sound c h is) = absurd (refused_composition c r (sym (same (Err r) (Ok c) mean h)))
      refusal_ends s r mean (by_refusal q is h) =
          inl (is ∙ ap refusal (sym (same_refusal r q (same (Err r) (Err q) mean h))))
      refusal_ends s r mean (by_name name is h) = absurd (is_read name h)
      refusal_ends s r mean (by_words is blank) = absurd (no_asked (reading words) asked blank e)
      refusal_ends s r mean (by_memory is) = inr is

      sound_ends : (s : Status) (c : Composition) → Mean asked.width t (Ok c)
          → ¬ (Rose (see.wav before.wav).faults (see.wav now.wav).faults)
          → ¬ (Rose (see.talk before.talk).faults (see.talk now.talk).faults)
          → Ended s → (s ≡ status.Ok) ⊎ (s ≡ status.OutOfMemory)
      sound_ends s c mean still silent (by_sound d h is) =
          inl (⊎_elim (λ ok. ok) (λ rose. absurd (⊎_elim still silent rose)) is)
      sound_ends s c mean still silent (by_refusal r is h) =
          absurd (refused_composition c r (same (Ok c) (Err r) mean h))
      sound_ends s c mean still silent (by_name name is h) = absurd (is_read name h)
      sound_ends s c mean still silent (by_words is blank) = absurd (no_asked (reading words) asked blank e)
      sound_ends s c mean still silent (by_memory is) = inr is

module _ {F K T B C : Type 0} (see : Sight F K T B C) where
  pub wordless : (words : List Text) (s : Status) (before now : Scene F K T B C) → IsProgramRun see words s before now
      → reading words ≡ None
      → (s ≡ status.Usage) ⊎ (s ≡ status.OutOfMemory)
  wordless words s before now run e = unread_ends see words before now s e (ended_by see words before now s run.ended)

  pub lacking : NoneLacking → (words : List Text) (s : Status) (before now : Scene F K T B C)
      → IsProgramRun see words s before now
      → Reads words (λ asked. (name : List ℕ) × LackWhereTold (see.shelf before.shelf).files asked.piece name)
      → (s ≡ status.ShelfFault) ⊎ (s ≡ status.OutOfMemory)
  lacking none words s before now run lack =
      lacking_ends see words before now lack.0 lack.1 none s lack.2.0 lack.2.1
      (ended_by see words before now s run.ended)

  pub refusals : OneMeaning → OnePair → NoneLacking
      → (words : List Text) (s : Status) (before now : Scene F K T B C) (asked : Asked) (t : Texts)
      (r : Refusal)
      → IsProgramRun see words s before now → reading words ≡ Some asked
      → AreTexts (see.shelf before.shelf).files asked.piece t
      → Mean asked.width t (Err r) → ¬ (Rose (see.shelf before.shelf).faults (see.shelf now.shelf).faults)
      → (s ≡ refusal r) ⊎ (s ≡ status.OutOfMemory)
  refusals m p none words s before now asked t r run e known mean calm =
      refusal_ends see words before now asked e m p none t known calm s r mean
      (ended_by see words before now s run.ended)

  pub sounds : OneMeaning → OnePair → NoneLacking
      → (words : List Text) (s : Status) (before now : Scene F K T B C) (asked : Asked) (t : Texts)
      (c : Composition)
      → IsProgramRun see words s before now → reading words ≡ Some asked
      → AreTexts (see.shelf before.shelf).files asked.piece t
      → Mean asked.width t (Ok c) → ¬ (Rose (see.shelf before.shelf).faults (see.shelf now.shelf).faults)
      → ¬ (Rose (see.wav before.wav).faults (see.wav now.wav).faults)
      → ¬ (Rose (see.talk before.talk).faults (see.talk now.talk).faults)
      → (s ≡ status.Ok) ⊎ (s ≡ status.OutOfMemory)
  sounds m p none words s before now asked t c run e known mean calm still silent =
      sound_ends see words before now asked e m p none t known calm s c mean still silent
      (ended_by see words before now s run.ended)
