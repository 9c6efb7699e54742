-- How an act changes a state: the same sizes, and one register that was written.
use Rattle.std.proofs.Common.{◌≡◌, ℕ, ℤ, List, length, map, Option, None, slice_index_or, refl, sym, ◌∙◌, ap}
use Rattle.cs_ir.specs.{Registers.rate_at, Machine.Machine, Machine.acts, Machine.put, Machine.write, Waves.Wave}
use Rattle.cs_ir.specs.{Waves.held, declared.op.Act.Act, declared.register.Counts.Counts, declared.register.Reg.Reg}
use Rattle.cs_cells.specs.declared.footprint.Area.{Area}
use Rattle.cs_meaning.specs.{Model.Cause, Pieces.Piece}
use Rattle.cs_machine.specs.{Outputs.outs, Registers.IsWritten, Registers.values, declared.state.State.State}
use Rattle.cs_voice_meaning.specs.{Follows.Kinds, VoiceWorld.VoiceState, VoiceWorld.voice_world}
use Rattle.cs_machine.specs.declared.state.NoteSetting.{NoteSetting}
use Rattle.cs_machine.specs.States.{machine_of, unit_at, HasRoom, IsSettingOf, IsStateIn, Does, DoesAt}

-- the same sizes, and the same units
pub record SameRoom (old new : State) : Type 0 where
  pub counts : new.regs.counts ≡ old.regs.counts
  pub frames : new.regs.ksmps ≡ old.regs.ksmps
  pub channels : length new.outs.rows ≡ length old.outs.rows
  pub channel_frames : new.outs.ksmps ≡ old.outs.ksmps
  pub players : new.players.items ≡ old.players.items
  pub row : length new.row.items ≡ old.regs.ksmps

-- such a state still belongs to its code and piece
pub still_in : (areas : List Area) (piece : Piece) (kinds : Kinds) (counts : Counts) (old new : State)
    → SameRoom old new → IsStateIn areas piece kinds counts old → IsStateIn areas piece kinds counts new
still_in areas piece kinds counts old new same state = record {
  registers = same.counts ∙ state.registers;
  frames = same.frames ∙ state.frames;
  channels = same.channels ∙ state.channels;
  channel_frames = same.channel_frames ∙ state.channel_frames;
  units = ap length same.players ∙ state.units;
  row = same.row ∙ state.frames;
  players = λ u p is. state.players u p (ap (λ ps. slice_index_or ps u None) (sym same.players) ∙ is);
}

-- a state of a piece has the sizes that calls require
pub has_room : (areas : List Area) (piece : Piece) (kinds : Kinds) (counts : Counts) (s : State)
    → IsStateIn areas piece kinds counts s → HasRoom s
has_room areas piece kinds counts s state = record {
  row = state.row ∙ sym state.frames;
  channels = state.channel_frames ∙ sym state.frames;
}

-- the units, channels, delays and the end are as in the earlier state
pub record KeepsRest (old new : State) : Type 0 where
  pub players : new.players.items ≡ old.players.items
  pub outs : new.outs ≡ old.outs
  pub delays : new.delays ≡ old.delays
  pub ended : new.ended ≡ old.ended

-- the machine of a state after one register was written
pub written_machine : (ksmps : ℕ) (old new : State) (into : Reg) (w : Wave) → KeepsRest old new → old.regs.ksmps ≡ ksmps
    → IsWritten old.regs into w new.regs → (before after : ℕ → ℤ) → after ≡ before
    → (next : ℕ) (asks : List (List ℤ)) (cause : Option Cause)
    → machine_of new after next asks cause ≡ write ksmps into w (machine_of old before next asks cause)
written_machine ksmps old new into w rest frames written before after same next asks cause = λ i. record {
  regs = (written.values ∙ ap (λ n. put (values old.regs) into (held n (rate_at into) w)) frames) i;
  next = next;
  world = record {
    shared = same i;
    units = unit_at (rest.players i);
    delays = rest.delays i;
    outs = outs (rest.outs i);
    ended = rest.ended i;
    asks = asks;
    cause = cause;
  };
}

-- the sizes are the same after one register was written
pub written_room : (old new : State) (into : Reg) (w : Wave) → KeepsRest old new → IsWritten old.regs into w new.regs
    → length new.row.items ≡ old.regs.ksmps → SameRoom old new
written_room old new into w rest written row = record {
  counts = written.counts;
  frames = written.ksmps;
  channels = ap (λ o. length o.rows) rest.outs;
  channel_frames = ap (λ o. o.ksmps) rest.outs;
  players = rest.players;
  row = row;
}

-- An act that writes one register is done if the state is the earlier one with that register written.
pub writes : {areas : List Area} {piece : Piece} {kinds : Kinds} {counts : Counts} {act : Act} {into : Reg}
    {from : List Reg} (w : Wave) {old new : State} {before after : ℕ → ℤ} → KeepsRest old new → after ≡ before
    → IsStateIn areas piece kinds counts old
    → IsWritten old.regs into w new.regs → length new.row.items ≡ old.regs.ksmps
    → ((next : ℕ) (asks : List (List ℤ)) (cause : Option Cause)
    → acts (voice_world areas piece) act into (map (values old.regs) from) (machine_of old before next asks cause)
    ≡ write piece.head.ksmps into w (machine_of old before next asks cause))
    → Does areas piece kinds counts act into from old before new after
writes {areas} {piece} {kinds} {counts} {act} {into} {from} w {old} {new} {before} {after} rest same state written row
    does = record {
      machine = λ next asks cause.
          written_machine piece.head.ksmps old new into w rest state.frames written before after same next asks cause
          ∙ sym (does next asks cause);
      state = still_in areas piece kinds counts old new (written_room old new into w rest written row) state;
    }

-- the same in a setting, with what the setting says
pub writes_at : {at : NoteSetting} {act : Act} {into : Reg} {from : List Reg} (w : Wave) {old new : State}
    → KeepsRest old new → IsWritten old.regs into w new.regs → length new.row.items ≡ old.regs.ksmps
    → ((areas : List Area) (piece : Piece) (m : Machine VoiceState) → IsSettingOf at areas piece
    → acts (voice_world areas piece) act into (map (values old.regs) from) m ≡ write piece.head.ksmps into w m)
    → DoesAt at act into from old new
writes_at {at} {act} {into} {from} w {old} {new} rest written row does areas piece kinds counts cells setting state =
    writes w rest refl state written row (λ next asks cause. does areas piece (machine_of old cells next asks cause)
    setting)

-- An act that changes only cells is done if they change as its definition says.
pub record KeepsMachine (old new : State) : Type 0 where
  pub regs : new.regs ≡ old.regs
  pub rest : KeepsRest old new

pub changes : {areas : List Area} {piece : Piece} {kinds : Kinds} {counts : Counts} {act : Act} {into : Reg}
    {from : List Reg} {old new : State} {before after : ℕ → ℤ} → KeepsMachine old new
    → IsStateIn areas piece kinds counts old → length new.row.items ≡ old.regs.ksmps
    → ((next : ℕ) (asks : List (List ℤ)) (cause : Option Cause)
    → acts (voice_world areas piece) act into (map (values old.regs) from) (machine_of old before next asks cause)
    ≡ machine_of old after next asks cause) → Does areas piece kinds counts act into from old before new after
changes {areas} {piece} {kinds} {counts} {act} {into} {from} {old} {new} {before} {after} kept state row does = record {
  machine = λ next asks cause. same_machine next asks cause ∙ sym (does next asks cause);
  state = still_in areas piece kinds counts old new (record {
    counts = ap (λ r. r.counts) kept.regs;
    frames = ap (λ r. r.ksmps) kept.regs;
    channels = ap (λ o. length o.rows) kept.rest.outs;
    channel_frames = ap (λ o. o.ksmps) kept.rest.outs;
    players = kept.rest.players;
    row = row;
  }) state;
}
  where
    same_machine : (next : ℕ) (asks : List (List ℤ)) (cause : Option Cause)
        → machine_of new after next asks cause ≡ machine_of old after next asks cause
    same_machine next asks cause = λ i. record {
      regs = values (kept.regs i);
      next = next;
      world = record {
        shared = after;
        units = unit_at (kept.rest.players i);
        delays = kept.rest.delays i;
        outs = outs (kept.rest.outs i);
        ended = kept.rest.ended i;
        asks = asks;
        cause = cause;
      };
    }
