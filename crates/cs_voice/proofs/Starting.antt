-- Units that were put into a state, and starts that were refused.
use Rattle.std.proofs.Common.{◌≡◌, ℕ, ℤ, pos, ◌+◌, ◌<◌, ◌≤◌, ◌==◌, Bool, true, false, not, ◌&&◌, ◌||◌, List, length}
use Rattle.std.proofs.Common.{nat_le, slice_index_or, Option, Some, None, if◌then◌else◌, refl, sym, ◌∙◌, ap, subst}
use Rattle.std.proofs.Common.{arith}
use Rattle.std.specs.Option.{is_some}
use Rattle.std.proofs.lemmas.{Bool.Decides.nat_tests, List.length-set}
use Rattle.cs_base.specs.{Limits.most_delay_samples, declared.resource.Rate.Rate}
use Rattle.cs_base.proofs.Tests.{by_test, some_is}
use Rattle.cs_words.specs.{Catalogue.takes_table, declared.catalogue.Opcode.Opcode}
use Rattle.cs_signal.specs.{Delay.delay_length, Pace.Pace}
use Rattle.cs_ugen.specs.{Units.IsUnitOpcode, Units.unit_start, declared.unit.UnitState.UnitState, Generators.pace_of}
use Rattle.cs_ugen.proofs.Units.{state_starts}
use Rattle.cs_ir.specs.{Machine.Machine, Machine.in_world, declared.register.Counts.Counts}
use Rattle.cs_cells.specs.declared.footprint.Area.{Area}
use Rattle.cs_meaning.specs.Model.{Cause, delay_too_long, starts}
use Rattle.cs_meaning.specs.Pieces.{Piece, Table, find_table, is_there, is_delay, table_number}
use Rattle.cs_machine.proofs.Found.{if_false, if_true}
use Rattle.cs_machine.specs.{Registers.values, Outputs.outs, Players.PlayerData, Players.playing, States.machine_of}
use Rattle.cs_machine.specs.{States.unit_at, States.IsStateIn, States.IsPlayerOf, declared.state.State.State}
use Rattle.cs_voice_meaning.specs.{Placing.area_of, Follows.Kinds}
use Rattle.cs_voice_meaning.specs.VoiceWorld.{Playing, VoiceState, voice_model}
use Rattle.cs_voice.specs.Starting.{HasUnit, Starts, cause_of, player_alone, player_on}
use Rattle.cs_voice.proofs.Ran.{players_set, units_set}
use Rattle.cs_voice.specs.{Tables.CanBePlayed, Tables.CanAllBePlayed, declared.begin.StartRefusal.StartRefusal}
use Rattle.cs_voice.specs.inner.Begun.{IsBegunOn, samples_with}
use Rattle.cs_base.specs.declared.resource.Res.TheVariants as res
use Rattle.cs_words.specs.declared.catalogue.Opcode.TheVariants as op
use Rattle.cs_voice.specs.declared.begin.StartRefusal.TheVariants as refusal

-- the machine of a state into which a unit was put
unit_machine : (old new : State) (u samples : ℕ) (p : PlayerData) → HasUnit old u p samples new
    → u < length old.players.items → (cells : ℕ → ℤ) (next : ℕ) (asks : List (List ℤ)) (cause : Option Cause)
    → machine_of new cells next asks cause ≡ record {
      regs = values old.regs;
      next = next;
      world = record {
        shared = cells;
        units = λ n. if n == u then Some (playing p) else unit_at old.players.items n;
        delays = samples;
        outs = outs old.outs;
        ended = old.ended;
        asks = asks;
        cause = cause;
      };
    }
unit_machine old new u samples p has low cells next asks cause = λ i. record {
  regs = values (has.regs i);
  next = next;
  world = record {
    shared = cells;
    units = (ap unit_at has.players ∙ units_set old.players.items u (Some p) low) i;
    delays = has.delays i;
    outs = outs (has.outs i);
    ended = has.ended i;
    asks = asks;
    cause = cause;
  };
}

-- it still is a state of its code and piece, if the code runs the unit
unit_state : (areas : List Area) (piece : Piece) (kinds : Kinds) (counts : Counts) (old new : State) (u samples : ℕ)
    (p : PlayerData)
    → HasUnit old u p samples new → u < length old.players.items → IsStateIn areas piece kinds counts old
    → IsPlayerOf areas piece (kinds u) p → IsStateIn areas piece kinds counts new
unit_state areas piece kinds counts old new u samples p has low state player = record {
  registers = ap (λ r. r.counts) has.regs ∙ state.registers;
  frames = ap (λ r. r.ksmps) has.regs ∙ state.frames;
  channels = ap (λ o. length o.rows) has.outs ∙ state.channels;
  channel_frames = ap (λ o. o.ksmps) has.outs ∙ state.channel_frames;
  units = ap length has.players ∙ length-set old.players.items u (Some p) ∙ state.units;
  row = ap (λ v. length v.items) has.row ∙ state.row;
  players = λ n q is. players_set areas piece kinds old.players.items u (Some p) low
      (λ r e. subst (IsPlayerOf areas piece (kinds u)) (some_is p r e) player) state.players n q
      (ap (λ ps. slice_index_or ps n None) (sym has.players) ∙ is);
}

-- an opcode that takes a table is no delay
no_delay : (o : Opcode) → takes_table o ≡ true → is_delay o ≡ false
no_delay op.Delay h = absurd cc
no_delay _ h = refl

no_test : (o : Opcode) → is_delay o ≡ true → takes_table o ≡ false
no_test op.Delay h = refl
no_test _ h = absurd cc

-- the player of a unit belongs to its opcode
has_one : (o : Option (List ℤ)) (a : Option Area) → (o ≡ None → (x : Area) × (a ≡ Some x))
    → (is_some o || is_some (if is_some o then None else a)) ≡ true
has_one (Some ps) a h = refl
has_one None a h = let e = h refl in ap is_some e.1

on_is : (areas : List Area) (piece : Piece) (o : Opcode) (r : Rate) (pace : Pace) (settled : List ℤ) (t : Table)
    → IsUnitOpcode o → takes_table o ≡ true
    → find_table piece.tables (table_number settled) ≡ Some t → t.present ≡ true → CanBePlayed areas t
    → ((area : Area) → (player_on areas t (table_number settled) (unit_start o r pace settled)).area ≡ Some area
    → area.first + area.length ≤ 65536)
    → IsPlayerOf areas piece (o, r) (player_on areas t (table_number settled) (unit_start o r pace settled))
on_is areas piece o r pace settled t unit takes found present can small = record {
  state = (state_starts o r pace settled unit).opcode;
  table = λ again. record {
    table = t;
    found = found;
    present = present;
    points = refl;
    area = refl;
    has = has_one t.frozen (area_of areas (res.Table t.number)) can.area;
    power = can.power;
    small = small;
  };
  none = λ no. absurd (let e : true ≡ false = sym takes ∙ no in cc);
}

alone_is : (areas : List Area) (piece : Piece) (o : Opcode) (r : Rate) (pace : Pace) (settled : List ℤ) → IsUnitOpcode o
    → takes_table o ≡ false
    → IsPlayerOf areas piece (o, r) (player_alone (table_number settled) (unit_start o r pace settled))
alone_is areas piece o r pace settled unit takes = record {
  state = (state_starts o r pace settled unit).opcode;
  table = λ again. absurd (let e : true ≡ false = sym again ∙ takes in cc);
  none = λ no. (refl, refl);
}

-- the start of a unit, by its tests
no_refusal : (a b : Bool) → b ≡ true → (a && not b) ≡ false
no_refusal true b e = ap not e
no_refusal false b e = refl

no_look : (a b : Bool) → a ≡ false → (a && not b) ≡ false
no_look a b e = ap (λ x. x && not b) e

a_refusal : (a b : Bool) → a ≡ true → b ≡ false → (a && not b) ≡ true
a_refusal a b e f = ap (λ x. x && not b) e ∙ ap not f

within : (n : ℕ) → n ≤ most_delay_samples → nat_le n most_delay_samples ≡ true
within n h = grind (arith, nat_tests)

beyond : (n : ℕ) → most_delay_samples < n → nat_le n most_delay_samples ≡ false
beyond n h = grind (arith, nat_tests)

-- a playing unit, put into a state
with_unit : (cells : ℕ → ℤ) (next : ℕ) (asks : List (List ℤ)) (s : State) (u samples : ℕ) (p : Playing)
    → Machine VoiceState
with_unit cells next asks s u samples p = record {
  regs = values s.regs;
  next = next;
  world = record {
    shared = cells;
    units = λ n. if n == u then Some p else unit_at s.players.items n;
    delays = samples;
    outs = outs s.outs;
    ended = s.ended;
    asks = asks;
    cause = None;
  };
}

module _ (areas : List Area) (piece : Piece) (kinds : Kinds) (counts : Counts) (o : Opcode) (r : Rate) (u : ℕ)
    (settled : List ℤ) (old new : State) where
  -- a start that is refused
  refused_is : (refused : StartRefusal) → new ≡ old → IsStateIn areas piece kinds counts old
      → old.delays ≤ most_delay_samples → ((x : VoiceState) → x.delays ≡ old.delays
      → starts (voice_model areas piece) o r u settled x ≡ record x { cause = Some (cause_of refused) })
      → Starts areas piece kinds counts o r u settled old new (Some refused)
  refused_is refused same state small is = record {
    machine = λ cells next asks. ap (λ s. machine_of s cells next asks (Some (cause_of refused))) same
        ∙ sym (ap (λ w. in_world w (machine_of old cells next asks None))
        (is (machine_of old cells next asks None).world refl));
    state = subst (λ s. IsStateIn areas piece kinds counts s) (sym same) state;
    delays = subst (λ s. s.delays ≤ most_delay_samples) (sym same) small;
  }

  -- a start that succeeds
  started_is : (samples : ℕ) (p : PlayerData) → HasUnit old u p samples new → u < length old.players.items
      → IsStateIn areas piece kinds counts old → IsPlayerOf areas piece (o, r) p → kinds u ≡ (o, r)
      → samples ≤ most_delay_samples → ((cells : ℕ → ℤ) (next : ℕ) (asks : List (List ℤ))
      → in_world (starts (voice_model areas piece) o r u settled (machine_of old cells next asks None).world)
      (machine_of old cells next asks None) ≡ with_unit cells next asks old u samples (playing p))
      → Starts areas piece kinds counts o r u settled old new None
  unfolding with_unit
  started_is samples p has low state player kind small is = record {
    machine = λ cells next asks. unit_machine old new u samples p has low cells next asks None
        ∙ sym (is cells next asks);
    state = unit_state areas piece kinds counts old new u samples p has low state
        (let K : Opcode × Rate → Type 0 = λ k. IsPlayerOf areas piece k p in subst K (sym kind) player);
    delays = let e = has.delays in omega arith;
  }

  module _ (pace : Pace) (same_pace : pace_of piece.head ≡ pace) (kind : kinds u ≡ (o, r)) (unit : IsUnitOpcode o)
      (state : IsStateIn areas piece kinds counts old)
      (low : u < length old.players.items) (small : old.delays ≤ most_delay_samples) where
    pub on_table : takes_table o ≡ true → CanAllBePlayed areas piece.tables
        → IsBegunOn areas piece.tables (table_number settled) (unit_start o r pace settled) u old new
        → Starts areas piece kinds counts o r u settled old new None
    unfolding with_unit
    on_table takes can b =
        started_is old.delays (player_on areas b.table (table_number settled) (unit_start o r pace settled)) b.has low
        state (on_is areas piece o r pace settled b.table unit takes b.found b.present
        (can (table_number settled) b.table b.found) b.small) kind small
        (λ cells next asks.
        ap (λ w. in_world w (machine_of old cells next asks None))
        (if_false (takes_table o && not (is_there (find_table piece.tables (table_number settled)))) _ _
        (no_refusal (takes_table o) (is_there (find_table piece.tables (table_number settled)))
        (ap is_there b.found ∙ b.present)) ∙ if_false (is_delay o) _ _ (no_delay o takes))
        ∙ ap (λ q. with_unit cells next asks old u old.delays
        (record { table = table_number settled; state = unit_start o r q settled })) same_pace)

    pub lacks_table : (number : ℤ) → takes_table o ≡ true → number ≡ table_number settled
        → is_there (find_table piece.tables (table_number settled)) ≡ false → new ≡ old
        → Starts areas piece kinds counts o r u settled old new (Some (refusal.NoTable number))
    lacks_table number takes is missing same =
        refused_is (refusal.NoTable number) same state small
        (λ x e. if_true (takes_table o && not (is_there (find_table piece.tables (table_number settled)))) _ _
        (a_refusal (takes_table o) (is_there (find_table piece.tables (table_number settled))) takes missing)
        ∙ ap (λ n. record x { cause = Some (cause_of (refusal.NoTable n)) }) (sym is))

    alone_begun : takes_table o ≡ false → is_delay o ≡ false
        → HasUnit old u (player_alone (table_number settled) (unit_start o r pace settled)) old.delays new
        → Starts areas piece kinds counts o r u settled old new None
    unfolding with_unit
    alone_begun takes delay has =
        started_is old.delays (player_alone (table_number settled) (unit_start o r pace settled)) has low state
        (alone_is areas piece o r pace settled unit takes) kind small
        (λ cells next asks.
        ap (λ w. in_world w (machine_of old cells next asks None))
        (if_false (takes_table o && not (is_there (find_table piece.tables (table_number settled)))) _ _
        (no_look (takes_table o) (is_there (find_table piece.tables (table_number settled))) takes)
        ∙ if_false (is_delay o) _ _ delay) ∙ ap (λ q. with_unit cells next asks old u old.delays
        (record { table = table_number settled; state = unit_start o r q settled })) same_pace)

    more : Pace → ℕ
    more q = old.delays + delay_length q (slice_index_or settled 0 (pos 0))

    delay_begun : is_delay o ≡ true → more pace ≤ most_delay_samples
        → HasUnit old u (player_alone (table_number settled) (unit_start o r pace settled)) (more pace) new
        → Starts areas piece kinds counts o r u settled old new None
    unfolding with_unit more
    delay_begun delay short has =
        started_is (more pace) (player_alone (table_number settled) (unit_start o r pace settled)) has low state
        (alone_is areas piece o r pace settled unit (no_test o delay)) kind short
        (λ cells next asks.
        ap (λ w. in_world w (machine_of old cells next asks None))
        (if_false (takes_table o && not (is_there (find_table piece.tables (table_number settled)))) _ _
        (no_look (takes_table o) (is_there (find_table piece.tables (table_number settled))) (no_test o delay))
        ∙ if_true (is_delay o) _ _ delay ∙ if_true (nat_le (more (pace_of piece.head)) most_delay_samples) _ _
        (within (more (pace_of piece.head))
        (let P : Pace → Type 0 = λ q. more q ≤ most_delay_samples in subst P (sym same_pace) short)))
        ∙ ap (λ q. with_unit cells next asks old u (more q)
        (record { table = table_number settled; state = unit_start o r q settled })) same_pace)

    delay_refused : (samples : ℕ) → is_delay o ≡ true → samples ≡ more pace → most_delay_samples < samples
        → new ≡ old → Starts areas piece kinds counts o r u settled old new (Some (refusal.DelayTooLong samples))
    unfolding with_unit more
    delay_refused samples delay is long same =
        refused_is (refusal.DelayTooLong samples) same state small
        (λ x e.
        let longer : ℕ → ℕ = λ n. n + delay_length (pace_of piece.head) (slice_index_or settled 0 (pos 0)) in
        let so : longer x.delays ≡ samples = ap longer e ∙ ap more same_pace ∙ sym is in
        if_false (takes_table o && not (is_there (find_table piece.tables (table_number settled)))) _ _
        (no_look (takes_table o) (is_there (find_table piece.tables (table_number settled))) (no_test o delay))
        ∙ if_true (is_delay o) _ _ delay ∙ if_false (nat_le (longer x.delays) most_delay_samples) _ _
        (beyond (longer x.delays) (let P : ℕ → Type 0 = λ n. most_delay_samples < n in subst P (sym so) long))
        ∙ ap (λ n. record x { cause = Some (delay_too_long n) }) so)

    -- a unit without a table, with which the delays have `samples` samples
    module _ (samples : ℕ) (takes : takes_table o ≡ false) (is : samples ≡ samples_with o pace settled old.delays) where
      of_delay : is_delay o ≡ true → samples ≡ more pace
      unfolding more
      of_delay so = is ∙ if_true (is_delay o) _ _ so

      of_other : is_delay o ≡ false → samples ≡ old.delays
      of_other so = is ∙ if_false (is_delay o) _ _ so

      pub alone : samples ≤ most_delay_samples
          → HasUnit old u (player_alone (table_number settled) (unit_start o r pace settled)) samples new
          → Starts areas piece kinds counts o r u settled old new None
      alone short has = by_test (is_delay o)
          (λ yes. delay_begun yes (subst (λ n. n ≤ most_delay_samples) (of_delay yes) short)
          (subst (λ n. HasUnit old u (player_alone (table_number settled) (unit_start o r pace settled)) n new)
          (of_delay yes) has))
          (λ no. alone_begun takes no
          (subst (λ n. HasUnit old u (player_alone (table_number settled) (unit_start o r pace settled)) n new)
          (of_other no) has))

      pub too_long : most_delay_samples < samples → new ≡ old
          → Starts areas piece kinds counts o r u settled old new (Some (refusal.DelayTooLong samples))
      too_long long same = by_test (is_delay o)
          (λ yes. delay_refused samples yes (of_delay yes) long same)
          (λ no. absurd (let e = of_other no in omega (arith, e, long, small)))

-- a unit that was put on a table
pub begun_on : (areas : List Area) (tables : List Table) (t : Table) (number n m : ℤ) (state k : UnitState) (u : ℕ)
    (old new : State) (p : PlayerData)
    → n ≡ number → m ≡ number → Some t ≡ find_table tables n → t.present ≡ true → k ≡ state → p ≡ player_on areas t m k
    → ((area : Area) → p.area ≡ Some area → area.first + area.length ≤ 65536) → HasUnit old u p old.delays new
    → IsBegunOn areas tables number state u old new
begun_on areas tables t number n m state k u old new p e d found present f g small has =
    let full : p ≡ player_on areas t number state = g ∙ (λ i. player_on areas t (d i) (f i)) in
    record {
      table = t;
      found = sym (found ∙ ap (find_table tables) e);
      present = present;
      has = subst (λ q. HasUnit old u q old.delays new) full has;
      small = λ area is. small area (ap (λ q. q.area) full ∙ is);
    }
