-- The result of the code that begins a note: the voice, or the cause of a refusal.
use Rattle.std.proofs.Common.{◌≡◌, ℕ, ℤ, pos, zero, suc, ◌-◌, ◌++◌, Bool, true, List, [], ◌∷◌, length, map}
use Rattle.std.proofs.Common.{slice_index_or, Option, Some, None, refl, sym, ◌∙◌, ap, subst, arith}
use Rattle.std.specs.Option.{option_map}
use Rattle.cs_ir.specs.{Asks.ask_of, Machine.Machine, Machine.new_machine, Machine.run, Validity.valid}
use Rattle.cs_ir.specs.{declared.ask.Ask.Ask, declared.op.Code.Code, declared.register.Counts.Counts}
use Rattle.cs_machine.specs.{Access.AreSpaces, Access.spaces_of, Players.PlayerData, Players.playing, Registers.values}
use Rattle.cs_machine.specs.{Outputs.outs, States.machine_of, States.IsStateIn, declared.state.State.State}
use Rattle.cs_cells.specs.{Access.Access, declared.footprint.Footprint.Footprint, declared.footprint.Area.Area}
use Rattle.cs_meaning.specs.Pieces.{Piece}
use Rattle.cs_voice_meaning.specs.VoiceWorld.{VoiceState, fresh_voice, voice_world}
use Rattle.cs_voice_meaning.specs.{Follows.Kinds, Voices.Sheet, Voices.IsPlayable, Voices.initialised, Voices.voice_of}
use Rattle.cs_signal.specs.Operands.{argument}
use Rattle.cs_typed.specs.TypedTree.{header_of_head}
use Rattle.cs_voice.specs.{Memory.MakeVoice, Memory.table_of, Memory.voice_in, VoiceData.IsOn, VoiceData.made}
use Rattle.cs_voice.specs.{VoiceData.sounding_on, declared.stage.Stage.Stage, declared.stage.PieceTable.PieceTable}
use Rattle.cs_voice.specs.{Starting.cause_of, Tables.tables_of, declared.begin.StartRefusal.StartRefusal}
use Rattle.cs_voice.specs.{declared.note.NewNote.NewNote, declared.tables.Finds.Finds}
use Rattle.cs_voice.specs.Passing.{CanInitialise, CanPass, IsStateOf, Passes}
use Rattle.cs_voice.specs.Starts.{IsLive, IsStarted, sheet_for, started_as}
use Rattle.cs_voice.specs.declared.begin.StartRefusal.TheVariants as refusal

-- the tables of a voice are those that it found, all marked as made
pub tables_made : (tables : List PieceTable) (ms : List Bool) → length ms ≡ length tables
    → map made (tables_of tables ms) ≡ map table_of tables
tables_made [] ms e = refl
tables_made (t ∷ tables) [] e = absurd (omega arith)
tables_made (t ∷ tables) (m ∷ ms) e = ap (λ ts. table_of t ∷ ts) (tables_made tables ms (omega arith))

-- the units of a voice are its state's units
pub units_as : (ps : List (Option PlayerData)) (u : ℕ)
    → slice_index_or (map (option_map playing) ps) u None ≡ option_map playing (slice_index_or ps u None)
units_as [] u = refl
units_as (p ∷ ps) zero = refl
units_as (p ∷ ps) (suc u) = units_as ps u

-- a new state of a sheet's code
pub new_state : (s : Sheet) (counts : Counts) (state : State)
    → ((cells : ℕ → ℤ) → machine_of state cells 0 [] None ≡ new_machine (fresh_voice cells))
    → ((areas : List Area) (piece : Piece) (kinds : Kinds) → piece.head.ksmps ≡ s.piece.head.ksmps
    → piece.head.nchnls ≡ s.piece.head.nchnls → IsStateIn areas piece kinds counts state)
    → IsPlayable s → (state.regs.counts ≡ counts) × IsStateOf s state.regs.counts state
new_state s counts state fresh in_piece playable =
    let counted : state.regs.counts ≡ counts = (in_piece s.areas s.piece playable.kinds refl refl).registers in (
      counted,
      record {
        in_piece = λ p. subst (λ k. IsStateIn s.areas s.piece p.kinds k state) (sym counted)
            (in_piece s.areas s.piece p.kinds refl refl);
        delays = let e : state.delays ≡ 0 = ap (λ m. m.world.delays) (fresh (λ a. pos 0)) in omega arith;
      },
    )

module _ {s : Sheet} {first now : State} {before after : ℕ → ℤ} {asked given : List Ask} {refused : Option StartRefusal}
    (fresh : (cells : ℕ → ℤ) → machine_of first cells 0 [] None ≡ new_machine (fresh_voice cells))
    (passes : Passes s first before asked now after given refused) where
  began : initialised s before ≡ machine_of now after passes.next passes.more (option_map cause_of refused)
  began = ap (run (voice_world s.areas s.piece) 0 s.init) (sym (fresh before)) ∙ passes.machine

  pub cells_left : after ≡ (initialised s before).world.shared
  cells_left = sym (ap (λ m. m.world.shared) began)

  pub asks_left : given ≡ asked ++ map ask_of (initialised s before).world.asks
  asks_left = passes.asks ∙ ap (λ more. asked ++ map ask_of more) (sym (ap (λ m. m.world.asks) began))

  pub cause_left : (initialised s before).world.cause ≡ option_map cause_of refused
  cause_left = ap (λ m. m.world.cause) began

  -- the voice that a state represents
  sounds_so : (number age until : ℕ) (stage : Stage) (foot : Footprint) (code : Code) (fields : List ℤ)
      → sounding_on s (voice_in number age until stage foot code fields now)
      ≡ voice_of s (machine_of now after passes.next passes.more (option_map cause_of refused))
  sounds_so number age until stage foot code fields = λ i. record {
    sheet = s;
    regs = values now.regs;
    units = λ u. units_as now.players.items u i;
    delays = now.delays;
    outs = outs now.outs;
    ended = now.ended;
  }

  pub live : (number age until : ℕ) (stage : Stage) (foot : Footprint) (code : Code) (fields : List ℤ) → refused ≡ None
      → IsOn s (voice_in number age until stage foot code fields now)
      → IsLive s until (initialised s before) (voice_in number age until stage foot code fields now)
  live number age until stage foot code fields none on = record {
    cause = cause_left ∙ ap (option_map cause_of) none;
    sounds = sounds_so number age until stage foot code fields ∙ ap (voice_of s) (sym began);
    plays = on;
    ends = refl;
  }

pub refused_so : (s : Sheet) (until : ℕ) (m : Machine VoiceState) (r : StartRefusal) → m.world.cause ≡ Some (cause_of r)
    → IsStarted s until m (started_as r)
refused_so s until m (refusal.NoTable number) e = e
refused_so s until m (refusal.DelayTooLong samples) e = e

-- the parts of a voice that plays from an instrument's sheet
unfoldable pub made_voice : (note : NewNote) (number : ℕ) (fields : List ℤ) (perf : Code) (counts : Counts)
    (state : State)
    → IsPlayable (sheet_for note fields) → number ≡ note.instrument.now.number → perf ≡ note.instrument.now.perf
    → length note.made.now ≡ length note.stage.tables.now
    → AreSpaces note.stage.layout.now → spaces_of note.stage.layout.now ≡ note.stage.spaces → valid perf ≡ true
    → counts ≡ perf.counts → IsStateOf (sheet_for note fields) counts state
    → MakeVoice number note.age note.until note.stage note.foot.now perf fields state
made_voice note number fields perf counts state playable numbered same long places zak fine counted of = record {
  sheet = sheet_for note fields;
  parts = record {
    number = sym numbered;
    age = refl;
    head = refl;
    spaces = refl;
    tables = tables_made note.stage.tables.now note.made.now long;
    fields = λ k. refl;
    areas = refl;
    zones = refl;
    foot = refl;
    perf = ap (λ code. code.ops) (sym same);
  };
  playable = playable;
  spaces = places;
  zak = zak;
  fine = fine;
  state = subst (λ k. IsStateIn note.stage.layout.now (sheet_for note fields).piece playable.kinds k state) counted
      (of.in_piece playable);
}

-- the code that begins a note can be done with what it finds
pub can_pass : (access : Access) (finds : Finds) (note : NewNote) (fields : List ℤ) (init : Code)
    (state : State) → init ≡ note.instrument.now.init → valid init ≡ true → CanInitialise access finds note fields state
    → CanPass access finds note.made.now init (sheet_for note fields) state
can_pass access finds note fields init state same fine can =
    let counts : Counts = note.instrument.now.init.counts in
    let new = new_state (sheet_for note fields) counts state can.fresh can.in_piece can.playable in
    record {
      begin = record {
        found = record {
          setting = record {
            layout = can.layout;
            head = ap header_of_head (sym can.head);
            spaces = sym can.zak;
            fields = λ k. ap (λ f. argument f (k - 1)) (sym can.given);
          };
          places = can.places;
          spaces = can.spaces;
          made = can.made ∙ ap length (sym can.found);
          tables = ap (λ ts. tables_of ts note.made.now) (sym can.found);
          can_be_played = can.tables;
        };
        playable = can.playable;
        state = new.1;
        bank = can.bank;
      };
      same = ap (λ code. code.ops) (sym same);
      valid = fine;
      counts = new.0 ∙ ap (λ (code : Code). code.counts) (sym same);
    }

-- what holds for the p-fields holds for those that are found
pub as_found : (access : Access) (finds : Finds) (note : NewNote) (fields : List ℤ) (state : State)
    → CanInitialise access finds note fields state → CanInitialise access finds note finds.at.fields.now state
as_found access finds note fields state can =
    subst (λ f. CanInitialise access finds note f state) (sym can.given) can
