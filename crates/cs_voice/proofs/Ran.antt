-- A state whose unit has run is the one that the definition yields.
use Rattle.std.proofs.Common.{◌≡◌, ℕ, ℤ, ◌<◌, ◌==◌, Bool, true, false, List, length, map, slice_index_or, slice_set}
use Rattle.std.proofs.Common.{Option, Some, None, if◌then◌else◌, refl, sym, ◌∙◌, ap, subst}
use Rattle.std.specs.Option.{option_map}
use Rattle.std.proofs.lemmas.{Bool.eqb-true, List.length-set}
use Rattle.cs_base.proofs.Tests.{by_test, some_is}
use Rattle.cs_base.specs.declared.resource.Rate.{Rate}
use Rattle.cs_words.specs.declared.catalogue.Opcode.{Opcode}
use Rattle.cs_signal.specs.{Operands.argument, Steps.run}
use Rattle.cs_ugen.specs.{Units.IsUnitOpcode, Units.opcode_of, Units.unit_step, declared.unit.UnitState.UnitState}
use Rattle.cs_ir.specs.{Registers.rate_at, Resources.Stock, declared.op.Reach.Reach, declared.register.Reg.Reg}
use Rattle.cs_ir.specs.Machine.{Machine, acts, gives, in_world, put, write, written}
use Rattle.cs_ir.specs.Waves.{Wave, held, silence}
use Rattle.cs_cells.specs.declared.footprint.Area.{Area}
use Rattle.cs_meaning.specs.Model.{Cause, has_run, unit_does, unit_points}
use Rattle.cs_meaning.specs.Pieces.{Piece, steps_of, step_at}
use Rattle.cs_machine.specs.Players.{PlayerData, curve_at, playing}
use Rattle.cs_machine.proofs.{Found.if_true, Unchanging.same_unit, Putting.set_at_place, Putting.through}
use Rattle.cs_machine.specs.{Outputs.outs, Registers.IsWritten, Registers.values, declared.state.State.State}
use Rattle.cs_voice_meaning.specs.{Follows.Kinds, Placing.IsPlaced, VoiceWorld.voice_world}
use Rattle.cs_voice_meaning.specs.VoiceWorld.{Playing, VoiceState, has_played, inputs_at, played, voice_model}
use Rattle.cs_machine.specs.States.{IsPlayerOf, machine_of, unit_at}
use Rattle.cs_voice.specs.Units.{DoesUnit, cycled, may_play, unit_after, unit_gives}
use Rattle.cs_voice.proofs.Points.{same_points, same_reach, unit_result}
use Rattle.cs_ir.specs.declared.op.Act.TheVariants as act

-- ---- units by number

-- setting a number to what it already has changes nothing
unit_again : (units : ℕ → Option Playing) (u : ℕ) (o : Option Playing) → units u ≡ o
    → (λ n. if n == u then o else units n) ≡ units
unit_again units u o is = λ i n. at n i
  where
    at : (n : ℕ) → (if n == u then o else units n) ≡ units n
    at n = by_test (n == u)
        (λ yes. ap (λ b. if b then o else units n) yes ∙ sym is ∙ ap units (sym (eqb-true n u yes)))
        (λ no. ap (λ b. if b then o else units n) no)

-- the units of a list after one was set
pub units_set : (players : List (Option PlayerData)) (u : ℕ) (q : Option PlayerData) → u < length players
    → unit_at (slice_set players u q) ≡ (λ n. if n == u then option_map playing q else unit_at players n)
units_set players u q low = λ i n. at n i
  where
    at : (n : ℕ) → unit_at (slice_set players u q) n ≡ (if n == u then option_map playing q else unit_at players n)
    at n = ap (option_map playing) (set_at_place players u q None low n)
        ∙ through (option_map playing) (n == u) q (slice_index_or players n None)

-- ---- the result of the definition of the unit's steps

-- the world with a unit at a number, and a value: the result of the definition, from what a note stores
abbrev answers : ℕ → Option PlayerData → Wave → VoiceState → VoiceState × Wave
answers u q w x = (record x { units = λ n. if n == u then option_map playing q else x.units n }, w)

module _ (areas : List Area) (stock : Stock) (piece : Piece) (opcode : Opcode) (r : Rate) (reach : Reach) (u : ℕ)
    (ws : List Wave) (x : VoiceState) (placed : IsPlaced areas stock piece) where
  stays : (o : Option Playing) → x.units u ≡ o
      → ◌≡◌ {A = VoiceState × Wave} (x, silence) (record x { units = λ n. if n == u then o else x.units n }, silence)
  stays o is = λ i. (record x { units = sym (unit_again x.units u o is) i }, silence)

  -- the steps of a cycle, with these points
  abbrev plays_on : List ℤ → PlayerData → VoiceState × Wave
  plays_on points p = has_run u (has_played r (playing p) (played piece.head.ksmps r (playing p) ws points)) x

  plays_as : (o : Option PlayerData) → x.units u ≡ option_map playing o
      → ((p : PlayerData) → o ≡ Some p → IsPlayerOf areas piece (opcode, r) p)
      → unit_does (voice_model areas piece) opcode r u reach ws (option_map playing o) x
      ≡ answers u (unit_after piece.head.ksmps r reach ws x.shared o)
      (unit_gives piece.head.ksmps r reach ws x.shared o) x
  plays_as None at is = stays None at
  plays_as (Some p) at is =
      ap (λ b. if b then plays_on (unit_points (voice_model areas piece) opcode (playing p) x) p else (x, silence))
      (same_reach areas piece opcode r reach p (is p refl)) ∙ by_reach (may_play reach p)
    where
      -- the same steps, with the same points
      same_steps : played piece.head.ksmps r (playing p) ws
          (unit_points (voice_model areas piece) opcode (playing p) x) ≡ cycled piece.head.ksmps r ws x.shared p
      same_steps = ap (λ points. run unit_step (inputs_at ws points) p.state 0 (steps_of piece.head.ksmps r))
          (same_points areas stock piece opcode r p x placed (is p refl))

      by_reach : (b : Bool) → (if b then plays_on (unit_points (voice_model areas piece) opcode (playing p) x) p else
          (x, silence))
          ≡ answers u (Some (if b then record p { state = (cycled piece.head.ksmps r ws x.shared p).0 } else p))
          (if b then (λ j. argument (cycled piece.head.ksmps r ws x.shared p).1 (step_at r j)) else silence) x
      by_reach true = ap (λ d. has_run u (has_played r (playing p) d) x) same_steps
      by_reach false = stays (Some (playing p)) at

-- ---- the state whose unit has run

-- The change of a state by running a unit: one register was written, and the unit has gone on; nothing else
-- has changed.
pub record HasRun (old : State) (u : ℕ) (q : Option PlayerData) (into : Reg) (w : Wave) (new : State) : Type 0 where
  pub regs : IsWritten old.regs into w new.regs
  pub players : new.players.items ≡ slice_set old.players.items u q
  pub outs : new.outs ≡ old.outs
  pub delays : new.delays ≡ old.delays
  pub ended : new.ended ≡ old.ended
  pub row : length new.row.items ≡ old.regs.ksmps

run_machine : (ksmps : ℕ) (old new : State) (u : ℕ) (q : Option PlayerData) (into : Reg) (w : Wave)
    → HasRun old u q into w new → old.regs.ksmps ≡ ksmps
    → u < length old.players.items → (before after : ℕ → ℤ) → after ≡ before
    → (next : ℕ) (asks : List (List ℤ)) (cause : Option Cause) → machine_of new after next asks cause
    ≡ (let m : Machine VoiceState =
    machine_of old before next asks cause in write ksmps into w (in_world (answers u q w m.world).0 m))
run_machine ksmps old new u q into w ran frames low before after same next asks cause = λ i. record {
  regs = (ran.regs.values ∙ ap (λ n. put (values old.regs) into (held n (rate_at into) w)) frames) i;
  next = next;
  world = record {
    shared = same i;
    units = (ap unit_at ran.players ∙ units_set old.players.items u q low) i;
    delays = ran.delays i;
    outs = outs (ran.outs i);
    ended = ran.ended i;
    asks = asks;
    cause = cause;
  };
}

-- a unit that has gone on still has its opcode and its table
goes_on : (areas : List Area) (piece : Piece) (kind : Opcode × Rate) (p : PlayerData) (k : UnitState)
    → opcode_of k ≡ opcode_of p.state → IsPlayerOf areas piece kind p
    → IsPlayerOf areas piece kind (record p { state = k })
goes_on areas piece kind p k same is = record {
  state = same ∙ is.state;
  table = λ takes. let on = is.table takes in record {
    table = on.table;
    found = on.found;
    present = on.present;
    points = on.points;
    area = on.area;
    has = on.has;
    power = on.power;
    small = on.small;
  };
  none = is.none;
}

still_player : (areas : List Area) (piece : Piece) (kind : Opcode × Rate) (ksmps : ℕ) (r : Rate) (reach : Reach)
    (ws : List Wave) (cells : ℕ → ℤ) (o : Option PlayerData)
    → ((p : PlayerData) → o ≡ Some p → IsPlayerOf areas piece kind p) → (q : PlayerData)
    → unit_after ksmps r reach ws cells o ≡ Some q → IsPlayerOf areas piece kind q
still_player areas piece kind ksmps r reach ws cells None is q at = absurd (cc)
still_player areas piece kind ksmps r reach ws cells (Some p) is q at =
    subst (IsPlayerOf areas piece kind) (some_is _ q at) (by_reach (may_play reach p))
  where
    by_reach : (b : Bool) → IsPlayerOf areas piece kind
        (if b then record p { state = (cycled ksmps r ws cells p).0 } else p)
    by_reach true = goes_on areas piece kind p (cycled ksmps r ws cells p).0
        (same_unit (inputs_at ws (curve_at p.points p.area cells)) p.state (cycled ksmps r ws cells p).0 0
        (steps_of ksmps r) (cycled ksmps r ws cells p).1 refl) (is p refl)
    by_reach false = is p refl

-- the players after one was set
pub players_set : (areas : List Area) (piece : Piece) (kinds : Kinds) (players : List (Option PlayerData)) (u : ℕ)
    (o : Option PlayerData) → u < length players → ((p : PlayerData) → o ≡ Some p → IsPlayerOf areas piece (kinds u) p)
    → ((v : ℕ) (p : PlayerData) → slice_index_or players v None ≡ Some p → IsPlayerOf areas piece (kinds v) p)
    → (v : ℕ) (p : PlayerData) → slice_index_or (slice_set players u o) v None ≡ Some p
    → IsPlayerOf areas piece (kinds v) p
players_set areas piece kinds players u o low own are v p at = by_test (v == u)
    (λ yes. subst (λ n. IsPlayerOf areas piece (kinds n) p) (sym (eqb-true v u yes))
    (own p (sym (here ∙ ap (λ b. if b then o else slice_index_or players v None) yes) ∙ at)))
    (λ no. are v p (sym (here ∙ ap (λ b. if b then o else slice_index_or players v None) no) ∙ at))
  where
    here : slice_index_or (slice_set players u o) v None ≡ (if v == u then o else slice_index_or players v None)
    here = set_at_place players u o None low v

-- the act of an opcode that computes a result, by its parts
abbrev unit_machine : ℕ → ℕ → Option PlayerData → Reg → Wave → Machine VoiceState → Machine VoiceState
unit_machine ksmps u q into w m = write ksmps into w (in_world (answers u q w m.world).0 m)

acts_as : (areas : List Area) (stock : Stock) (piece : Piece) (opcode : Opcode) (u : ℕ) (reach : Reach) (into : Reg)
    (ws : List Wave) (m : Machine VoiceState) (o : Option PlayerData)
    → IsUnitOpcode opcode → IsPlaced areas stock piece → m.world.units u ≡ option_map playing o
    → ((p : PlayerData) → o ≡ Some p → IsPlayerOf areas piece (opcode, (rate_at into)) p)
    → acts (voice_world areas piece) (act.Unit opcode u reach) into ws m
    ≡ unit_machine piece.head.ksmps u (unit_after piece.head.ksmps (rate_at into) reach ws m.world.shared o) into
    (unit_gives piece.head.ksmps (rate_at into) reach ws m.world.shared o) m
acts_as areas stock piece opcode u reach into ws m o unit placed at is =
    ap (λ d. written piece.head.ksmps opcode into d m)
    (ap (λ k. unit_does (voice_model areas piece) opcode (rate_at into) u reach ws k m.world) at
    ∙ plays_as areas stock piece opcode (rate_at into) reach u ws m.world placed o at is)
    ∙ if_true (gives opcode) _ _ (unit_result opcode unit).some

pub unit_done : {u : ℕ} {reach : Reach} {into : Reg} {from : List Reg} {old new : State} {before after : ℕ → ℤ}
    → u < length old.players.items → after ≡ before
    → HasRun old u (unit_after old.regs.ksmps (rate_at into) reach (map (values old.regs) from) before
    (slice_index_or old.players.items u None)) into
    (unit_gives old.regs.ksmps (rate_at into) reach (map (values old.regs) from) before
    (slice_index_or old.players.items u None)) new → DoesUnit u reach into from old before new after
unit_done {u} {reach} {into} {from} {old} {new} {before} {after} low same ran areas piece stock kinds counts opcode unit
    kind placed state = record {
      machine = λ next asks cause.
          run_machine piece.head.ksmps old new u _ into _ ran state.frames low before after same next asks cause
          ∙ ap (λ n. unit_machine piece.head.ksmps u
          (unit_after n (rate_at into) reach (map (values old.regs) from) before (slice_index_or old.players.items u
          None)) into
          (unit_gives n (rate_at into) reach (map (values old.regs) from) before (slice_index_or old.players.items u
          None)) (machine_of old before next asks cause)) state.frames
          ∙ sym (acts_as areas stock piece opcode u reach into (map (values old.regs) from)
          (machine_of old before next asks cause) (slice_index_or old.players.items u None) unit placed refl
          (λ p at. subst (λ k. IsPlayerOf areas piece k p) kind (state.players u p at)));
      state = record {
        registers = ran.regs.counts ∙ state.registers;
        frames = ran.regs.ksmps ∙ state.frames;
        channels = ap (λ f. length f.rows) ran.outs ∙ state.channels;
        channel_frames = ap (λ f. f.ksmps) ran.outs ∙ state.channel_frames;
        units = ap length ran.players ∙ length-set old.players.items u _ ∙ state.units;
        row = ran.row ∙ state.frames;
        players = λ v p at. players_set areas piece kinds old.players.items u _ low
            (still_player areas piece (kinds u) old.regs.ksmps (rate_at into) reach (map (values old.regs) from) before
            (slice_index_or old.players.items u None) (state.players u)) state.players v p
            (ap (λ l. slice_index_or l v None) (sym ran.players) ∙ at);
      };
    }
