-- The state represents a moment after the steps of a start.
use Rattle.std.proofs.Common.{◌≡◌, ◌∙◌, ◌+◌, ℕ, ℤ, pos, ◌==◌, Bool, true, false, List, length, map, sym, ap, refl}
use Rattle.std.proofs.Common.{subst}
use Rattle.std.specs.Prelude.{◌||◌, nat_lt, Option, Some, None, if◌then◌else◌}
use Rattle.std.proofs.lemmas.Slice.Zip.{AllZip-long}
use Rattle.cs_base.specs.Limits.{most_notes}
use Rattle.cs_cells.specs.{Cells.Cells, Cells.cell, declared.footprint.Area.Area}
use Rattle.cs_cells.specs.declared.footprint.Footprint.{Footprint}
use Rattle.cs_piece_meaning.specs.Moments.{Composition, Active, Moment, clock_of}
use Rattle.cs_piece_meaning.specs.Starts.{Start, all_asked, begun, has_room, in_vain, initialised, start_in, started}
use Rattle.cs_piece_meaning.specs.Starts.{time_of}
use Rattle.cs_ir.specs.{Asks.ask_of, Instruments.Numbered, declared.ask.Ask.Ask}
use Rattle.cs_life.proofs.Begun.{is_begun, same_asks, still_hold}
use Rattle.cs_life.proofs.{Flags.flags_fit, Standings.shared_so, Standings.wait_so, Waits.wanted_is, Waits.wanted_same}
use Rattle.cs_life.specs.{Standing.Plays, Standing.StandsFor, declared.life.Life.Life}
use Rattle.cs_life.specs.inner.Starting.{IsBegun, Wait, all_wanted}
use Rattle.cs_meaning.specs.{Core.Block, Notes.Note, Plain.Plain}
use Rattle.cs_sched.specs.Waiting.{Queue}
use Rattle.cs_piece.specs.Ready.{IsInstrumentOf, IsStageOf}
use Rattle.cs_voice.specs.Starts.{IsStarted, sheet_at}
use Rattle.cs_voice.specs.{declared.note.Started.Started, VoiceData.VoiceData, declared.stage.Stage.Stage}
use Rattle.cs_sched.specs.Times as times
use Rattle.cs_voice_meaning.specs.Voices as sounding

-- the result of starting a note, and what it leaves
pub record Gives (s : sounding.Sheet) (until : ℕ) (cells new : Cells) (r : Started) (asks : List Ask) : Type 0 where
  pub result : IsStarted s until (sounding.initialised s (cell cells)) r
  pub cells_are : cell new ≡ (sounding.initialised s (cell cells)).world.shared
  pub asks_are : asks ≡ map ask_of (sounding.initialised s (cell cells)).world.asks

-- what holds before the note joins those that play
pub record IsReady (c : Composition) (life : Life) (voices : List VoiceData) (new : Cells) (now : ℕ) (s : Start)
    (body : Block) (t : Note Plain) (r : Started)
    (pending : Queue) (not_started : ℕ) (n : Moment) : Type 0 where
  pub began : IsBegun c life.stage life.made.items now s body t r
  pub room : has_room s n ≡ true
  pub stands : StandsFor c (record life { pending = pending; not_started = not_started }) voices new n

module _ (c : Composition) (life : Life) (voices : List VoiceData) (cells new : Cells) (now : ℕ) (s : Start)
    (i : Numbered) (foot : Footprint) (body : Block)
    (m : Moment) (of : IsInstrumentOf life.stage i foot body) (stands : StandsFor c life voices cells m) where
  abbrev t : Note Plain
  t = begun c m.made s body m

  abbrev left : Moment
  left = record m { shared = t.world.shared }

  pub is_ready : (r : Started) (asks : List Ask) (time : ℤ) (flags : List Bool) (pending : Queue) (not_started : ℕ)
      → has_room s m ≡ true → s.number ≡ pos i.number
      → flags ≡ life.made.items
      → Gives (sheet_at i life.started foot life.stage flags s.fields) (now + s.cycles) cells new r asks
      → length new ≡ length cells → time ≡ time_of s
      → (Wait life.pending life.not_started left → Wait pending not_started (all_wanted c now time asks left))
      → IsReady c life voices new now s body t r pending not_started (all_asked c now (time_of s) t.world.asks left)
  is_ready r asks time flags pending not_started room number same_flags gives long same_time waits =
      let flags_are = flags_fit life.stage.tables.now c.tables m.made life.made.items stands.stand.stage_is.tables
      stands.stand.made in
      let g : Gives (sheet_at i life.started foot life.stage life.made.items s.fields) (now + s.cycles) cells new r
      asks =
      subst (λ x. Gives (sheet_at i life.started foot life.stage x s.fields) (now + s.cycles) cells new r asks)
      same_flags gives in
      let hold = still_hold c life.stage life.made.items now s i foot body life.started m cells stands.stand.stage_is
      stands.stand.made flags_are of stands.stand.hold new g.cells_are in
      let asked = same_asks c life.stage life.made.items now s i foot body life.started m cells stands.stand.stage_is
      stands.stand.made flags_are of stands.stand.hold in
      let first = shared_so c life voices cells new m t.world.shared stands long hold in
      let wait = waits (record { due = first.due; kept = first.kept; count = first.not_started }) in
      let others = wanted_same c now time asks left left
      (record { shared = refl; made = refl; active = refl; started = refl }) in
      let same : all_wanted c now time asks left ≡ all_asked c now (time_of s) t.world.asks left =
      ap (λ x. all_wanted c now x asks left) same_time ∙ ap (λ x. all_wanted c now (time_of s) x left) g.asks_are
      ∙ wanted_is c now (time_of s)
      (sounding.initialised (sheet_at i life.started foot life.stage life.made.items s.fields) (cell cells)).world.asks
      left
      ∙ ap (λ x. all_asked c now (time_of s) x left) asked in record {
        began = is_begun c life.stage life.made.items now s i foot body life.started m cells stands.stand.stage_is
            stands.stand.made flags_are of stands.stand.hold r number g.result;
        room = subst (λ x. has_room s x ≡ true) same
            (ap (λ (x : List Active). s.cycles == 0 || nat_lt (length x) most_notes) others.active ∙ room);
        stands = subst (λ x. StandsFor c (record life { pending = pending; not_started = not_started }) voices new x)
            same
            (wait_so c life voices new left (all_wanted c now time asks left) pending not_started first others wait);
      }

-- time follows the header of the stage
pub clock_is : (c : Composition) (stage : Stage) (total : ℕ) → IsStageOf c stage → total ≡ c.cycles
    → clock_of c ≡ times.clock_of stage.head.now total
clock_is c stage total is same =
    λ i. record { sr = (sym is.head i).sr; ksmps = (sym is.head i).ksmps; cycles = sym same i }

-- whether there is room, by the number of voices
pub room_is : (c : Composition) (life : Life) (voices : List VoiceData) (cells : Cells) (m : Moment) (s : Start)
    → StandsFor c life voices cells m
    → has_room s m ≡ (s.cycles == 0 || nat_lt (length voices) most_notes)
room_is c life voices cells m s stands =
    ap (λ n. s.cycles == 0 || nat_lt n most_notes)
    (AllZip-long (Plays c life.stage life.made.items) voices m.active stands.stand.play)

-- what holds for the instrument with a number, if it exists
abbrev pub IsThere : Composition → (areas zones : List Area) → ℤ → Numbered → Footprint → Type 0
IsThere c layout zones number i foot = (body : Block) × (c.instrument number ≡ Some body) × (pos i.number ≡ number)
    × ((stage : Stage) → IsStageOf c stage → stage.layout.now ≡ layout
    → stage.zones.now ≡ zones → IsInstrumentOf stage i foot body)

module _ (c : Composition) (now : ℕ) (m : Moment) (life after : Life) (voices left : List VoiceData)
    (cells new : Cells) where
  -- an instrument that doesn't exist
  pub none_there : (s : Start) → c.instrument s.number ≡ None → StandsFor c after left new (in_vain m)
      → StandsFor c after left new (start_in c now s m)
  none_there s none stands =
      subst (λ (o : Option Block). StandsFor c after left new (started c now s o m)) (sym none) stands

  -- too many notes
  pub too_many : (s : Start) (i : Numbered) (foot : Footprint) (layout zones : List Area)
      → IsThere c layout zones s.number i foot
      → StandsFor c life voices cells m
      → (s.cycles == 0 || nat_lt (length voices) most_notes) ≡ false → StandsFor c after left new (in_vain m)
      → StandsFor c after left new (start_in c now s m)
  too_many s i foot layout zones there stands full vain =
      subst (λ (o : Option Block). StandsFor c after left new (started c now s o m)) (sym there.1)
      (subst (λ b. StandsFor c after left new
      (if b then initialised c now s there.0 (begun c m.made s there.0 m) m else in_vain m))
      (sym (room_is c life voices cells m s stands ∙ full)) vain)

  -- the note was initialised
  pub there_is_room : (s : Start) (i : Numbered) (foot : Footprint)
      → IsThere c life.setup.now.layout life.setup.now.zones
      s.number i foot
      → StandsFor c life voices cells m
      → (s.cycles == 0 || nat_lt (length voices) most_notes) ≡ true
      → ((body : Block) (n : Moment) → IsInstrumentOf life.stage i foot body
      → has_room s n ≡ true → StandsFor c life voices cells n
      → StandsFor c after left new (initialised c now s body (begun c n.made s body n) n))
      → StandsFor c after left new (start_in c now s m)
  there_is_room s i foot there stands any rest =
      let room : has_room s m ≡ true = room_is c life voices cells m s stands ∙ any in
      let same : StandsFor c after left new (initialised c now s there.0 (begun c m.made s there.0 m) m) =
      rest there.0 m (there.3 life.stage stands.stand.stage_is stands.layout stands.zones) room stands in
      subst (λ (o : Option Block). StandsFor c after left new (started c now s o m)) (sym there.1)
      (subst (λ b. StandsFor c after left new
      (if b then initialised c now s there.0 (begun c m.made s there.0 m) m else in_vain m)) (sym room) same)
