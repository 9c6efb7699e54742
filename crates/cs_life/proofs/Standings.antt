-- The state represents the moments of a start: after the note was initialised, after its notes were
-- scheduled, after it joined those that play, and after it started nothing.
use Rattle.std.proofs.Common.{◌≡◌, ◌∙◌, ◌⊎◌, ⊎_elim, inl, inr, ℕ, zero, suc, ◌≤◌, ◌<◌, ◌+◌, ◌-◌, ◌^◌, ◌==◌, Bool, true}
use Rattle.std.proofs.Common.{false, List, length, sym, ap, refl, subst, arith}
use Rattle.std.specs.Prelude.{min, Option, None, if◌then◌else◌}
use Rattle.std.specs.{List.AllZip, List.insert, List.Sorted.IsNonDecreasingBy}
use Rattle.std.proofs.lemmas.{Bool.Decides.nat_tests, List.Edits.length-insert, Slice.Zip.AllZip-long}
use Rattle.cs_base.specs.{Limits.most_notes, declared.resource.Res.Res}
use Rattle.cs_cells.specs.Cells.{Cells, cell}
use Rattle.cs_piece_meaning.specs.Moments.{Composition, Active, Moment, placed}
use Rattle.cs_piece_meaning.specs.Starts.{Start, entered, has_room, in_vain, joined}
use Rattle.cs_ir.specs.Waves.{Wave}
use Rattle.cs_life.proofs.{Joining.placed_is, Places.zip_insert, Waits.SameOthers, Waits.count_up}
use Rattle.cs_life.specs.Standing.{Plays, StandsFor, flags_of, kept_count}
use Rattle.cs_life.specs.declared.life.Life.{Life}
use Rattle.cs_life.specs.inner.Starting.{IsBegun, IsRefused, Wait, active_of}
use Rattle.cs_meaning.specs.{Core.Block, Notes.Note, Plain.Cause, Plain.Plain}
use Rattle.cs_piece.specs.VoicesOfNotes.{Hold}
use Rattle.cs_life.proofs.Ordered.{still_in_order}
use Rattle.cs_life.specs.inner.Roster.{Joined}
use Rattle.cs_sched.specs.Waiting.{Queue}
use Rattle.cs_voice.specs.declared.note.Started.{Started}
use Rattle.cs_voice.specs.{VoiceData.VoiceData, VoiceMeaning.IsVoice, declared.stage.Stage.Stage}
use Rattle.cs_voice.specs.declared.note.Started.TheVariants as started

-- a refused note has started nothing
pub vain_so : (c : Composition) (life : Life) (voices : List VoiceData) (cells : Cells) (now : ℕ) (s : Start)
    (body : Block) (t : Note Plain) (m : Moment)
    → IsRefused t → StandsFor c life voices cells (in_vain m)
    → StandsFor c life voices cells (entered now s body t t.world.cause m)
vain_so c life voices cells now s body t m r stands =
    subst (λ (o : Option Cause). StandsFor c life voices cells (entered now s body t o m)) (sym r.1) stands

none_or_any : (n : ℕ) → (n ≡ 0) ⊎ (0 < n)
none_or_any zero = inl refl
none_or_any (suc n) = inr (omega arith)

lasting : (n : ℕ) → 0 < n → (n == 0) ≡ false
lasting n lt = grind (arith, nat_tests)

module _ (c : Composition) (life : Life) (voices : List VoiceData) where
  -- the cells are those after an initialisation
  pub shared_so : (cells new : Cells) (m : Moment) (shared : Res → Wave) → StandsFor c life voices cells m
      → length new ≡ length cells
      → Hold life.stage.layout.now (cell new) shared → StandsFor c life voices new (record m { shared = shared })
  shared_so cells new m shared s long hold = record {
    stand = record {
      stage_is = s.stand.stage_is;
      made = s.stand.made;
      hold = hold;
      long = long ∙ s.stand.long;
      play = s.stand.play;
      in_order = s.stand.in_order;
      few = s.stand.few;
    };
    due = s.due;
    kept = s.kept;
    started = s.started;
    not_started = s.not_started;
    layout = s.layout;
    zones = s.zones;
  }

  -- the notes that were scheduled wait
  pub wait_so : (cells : Cells) (m n : Moment) (pending : Queue) (not_started : ℕ) → StandsFor c life voices cells m
      → SameOthers m n
      → Wait pending not_started n
      → StandsFor c (record life { pending = pending; not_started = not_started }) voices cells n
  wait_so cells m n pending not_started s same w = record {
    stand = record {
      stage_is = s.stand.stage_is;
      made = subst (λ x. life.made.items ≡ flags_of c.tables x) (sym same.made) s.stand.made;
      hold = subst (λ x. Hold life.stage.layout.now (cell cells) x) (sym same.shared) s.stand.hold;
      long = s.stand.long;
      play = subst (λ x. AllZip (Plays c life.stage life.made.items) voices x) (sym same.active) s.stand.play;
      in_order = s.stand.in_order;
      few = s.stand.few;
    };
    due = w.due;
    kept = w.kept;
    started = subst (λ x. life.started ≡ kept_count x) (sym same.started) s.started;
    not_started = w.count;
    layout = s.layout;
    zones = s.zones;
  }

  -- a count of starts increases
  started_so : (cells : Cells) (m : Moment) → StandsFor c life voices cells m → (after : List VoiceData)
      → after ≡ voices
      → StandsFor c (record life { started = min (life.started + 1) (2 ^ 64 - 1) }) after cells
      (record m { started = m.started + 1 })
  started_so cells m s after same = record {
    stand = record {
      stage_is = s.stand.stage_is;
      made = s.stand.made;
      hold = s.stand.hold;
      long = s.stand.long;
      play = subst (λ x. AllZip (Plays c life.stage life.made.items) x m.active) (sym same) s.stand.play;
      in_order = subst (λ x. IsNonDecreasingBy (λ (w : VoiceData). w.number) x) (sym same) s.stand.in_order;
      few = subst (λ (x : List VoiceData). length x ≤ most_notes) (sym same) s.stand.few;
    };
    due = s.due;
    kept = s.kept;
    started = ap (λ k. min (k + 1) (2 ^ 64 - 1)) s.started ∙ sym (count_up m.started);
    not_started = s.not_started;
    layout = s.layout;
    zones = s.zones;
  }

  module _ (cells : Cells) (now : ℕ) (s : Start) (body : Block) (t : Note Plain) (m : Moment)
      (stands : StandsFor c life voices cells m) where
    -- the note has started, and lasts no cycle
    pub brief_so : t.world.cause ≡ None → s.cycles ≡ 0 → (after : List VoiceData) → after ≡ voices
        → StandsFor c (record life { started = min (life.started + 1) (2 ^ 64 - 1) }) after cells
        (entered now s body t t.world.cause m)
    brief_so none brief after same =
        let stay : joined now s body t m.active m.started ≡ m.active = rw brief in
        subst (λ (o : Option Cause). StandsFor c (record life { started = min (life.started + 1) (2 ^ 64 - 1) }) after
        cells (entered now s body t o m))
        (sym none)
        (subst (λ (x : List Active). StandsFor c (record life { started = min (life.started + 1) (2 ^ 64 - 1) }) after
        cells (record m { active = x; started = m.started + 1 }))
        (sym stay) (started_so cells m stands after same))

    room_for : has_room s m ≡ true → 0 < s.cycles → length m.active < most_notes
    room_for room lasts = grind (arith, nat_tests)

    -- the note has started, and joins those that play
    module _ (none : t.world.cause ≡ None) (lasts : 0 < s.cycles) (room : has_room s m ≡ true) (v : VoiceData)
        (plays : (age : ℕ) → Plays c life.stage life.made.items v (active_of now s body t age)) (after : List VoiceData)
        (j : Joined (λ (w : VoiceData). w.number) v voices after) where
      few_then : length after ≤ most_notes
      few_then =
          let one_more = length-insert voices j.place v j.within in
          let long = ap (length {A = VoiceData}) j.is in
          let same = AllZip-long (Plays c life.stage life.made.items) voices m.active stands.stand.play in
          let there = room_for room lasts in
          omega arith

      abbrev n : Active
      n = active_of now s body t m.started

      takes_place : joined now s body t m.active m.started ≡ insert m.active j.place n
      takes_place =
          ap (λ b. if b then m.active else placed n m.active) (lasting s.cycles lasts)
          ∙ placed_is c life.stage life.made.items voices m.active v n stands.stand.play (plays m.started).number
          after j

      in_place : StandsFor c (record life { started = min (life.started + 1) (2 ^ 64 - 1) }) after cells
          (record m { active = insert m.active j.place n; started = m.started + 1 })
      in_place = record {
        stand = record {
          stage_is = stands.stand.stage_is;
          made = stands.stand.made;
          hold = stands.stand.hold;
          long = stands.stand.long;
          play = subst (λ x. AllZip (Plays c life.stage life.made.items) x (insert m.active j.place n)) (sym j.is)
              (zip_insert (Plays c life.stage life.made.items) voices m.active j.place v n stands.stand.play
              (plays m.started));
          in_order = still_in_order (λ (w : VoiceData). w.number) voices v after stands.stand.in_order j;
          few = few_then;
        };
        due = stands.due;
        kept = stands.kept;
        started = ap (λ k. min (k + 1) (2 ^ 64 - 1)) stands.started ∙ sym (count_up m.started);
        not_started = stands.not_started;
        layout = stands.layout;
        zones = stands.zones;
      }

      pub place_so : StandsFor c (record life { started = min (life.started + 1) (2 ^ 64 - 1) }) after cells
          (entered now s body t t.world.cause m)
      place_so =
          subst (λ (o : Option Cause). StandsFor c (record life { started = min (life.started + 1) (2 ^ 64 - 1) }) after
          cells (entered now s body t o m))
          (sym none)
          (subst (λ (x : List Active). StandsFor c (record life { started = min (life.started + 1) (2 ^ 64 - 1) }) after
          cells (record m { active = x; started = m.started + 1 }))
          (sym takes_place) in_place)

    -- the note has started: by the state of its voice
    pub live_so : (v : VoiceData) → IsVoice v → IsBegun c life.stage life.made.items now s body t (started.Live v)
        → has_room s m ≡ true
        → (after : List VoiceData) → (s.cycles ≡ 0 → after ≡ voices)
        → (0 < s.cycles → IsNonDecreasingBy (λ (w : VoiceData). w.number) voices
        → Joined (λ (w : VoiceData). w.number) v voices after)
        → StandsFor c (record life { started = min (life.started + 1) (2 ^ 64 - 1) }) after cells
        (entered now s body t t.world.cause m)
    live_so v valid begun room after brief lasts = ⊎_elim
        (λ none. brief_so begun.0 none after (brief none))
        (λ any. place_so begun.0 any room v (begun.1 valid) after (lasts any stands.stand.in_order))
        (none_or_any s.cycles)

-- a note without a voice was refused
pub refused_if : (c : Composition) (stage : Stage) (flags : List Bool) (now : ℕ) (s : Start) (body : Block)
    (t : Note Plain) (r : Started)
    → ((v : VoiceData) → r ≡ started.Live v → ⊥) → IsBegun c stage flags now s body t r → IsRefused t
refused_if c stage flags now s body t (started.Live v) other h = absurd (other v refl)
refused_if c stage flags now s body t _ other h = h
