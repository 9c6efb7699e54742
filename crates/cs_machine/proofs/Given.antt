-- States in which a row was written to a channel.
use Rattle.std.proofs.Common.{◌≡◌, ℕ, ℤ, ◌-◌, ◌&&◌, Bool, true, false, List, length, map, nat_le, Option, Some, None}
use Rattle.std.proofs.Common.{if◌then◌else◌, refl, sym, ◌∙◌, ap}
use Rattle.cs_base.proofs.Tests.{some_is}
use Rattle.cs_ir.specs.Machine.{Machine, acts, in_world}
use Rattle.cs_ir.specs.{Waves.Wave, declared.op.Act.Act, declared.register.Counts.Counts, declared.register.Reg.Reg}
use Rattle.cs_cells.specs.declared.footprint.Area.{Area}
use Rattle.cs_meaning.specs.{Model.Cause, Model.out_to, Model.out_to_numbered, Pieces.Piece}
use Rattle.cs_machine.specs.{Outputs.IsGiven, Registers.values, declared.state.State.State, States.machine_of}
use Rattle.cs_machine.specs.{States.unit_at, States.IsStateIn, States.Does, inner.Channels.channel_below}
use Rattle.cs_voice_meaning.specs.{Follows.Kinds, VoiceWorld.VoiceState, VoiceWorld.voice_world}
use Rattle.cs_machine.proofs.Done.{still_in}

-- everything except the channels is as in the earlier state
pub record KeepsAllButOuts (old new : State) : Type 0 where
  pub regs : new.regs ≡ old.regs
  pub players : new.players.items ≡ old.players.items
  pub delays : new.delays ≡ old.delays
  pub ended : new.ended ≡ old.ended
  pub row : new.row ≡ old.row

pub given_machine : (old new : State) (c : ℕ) (w : Wave) → KeepsAllButOuts old new → IsGiven old.outs c w new.outs
    → (cells : ℕ → ℤ) (next : ℕ) (asks : List (List ℤ)) (cause : Option Cause) → machine_of new cells next asks
    cause ≡ (let m : Machine VoiceState = machine_of old cells next asks cause in in_world (out_to c w m.world) m)
given_machine old new c w rest given cells next asks cause = λ i. record {
  regs = values (rest.regs i);
  next = next;
  world = record {
    shared = cells;
    units = unit_at (rest.players i);
    delays = rest.delays i;
    outs = given.outs i;
    ended = rest.ended i;
    asks = asks;
    cause = cause;
  };
}

-- An act that writes to one channel is done by a state whose channel was written to.
pub gives_to : (areas : List Area) (piece : Piece) (kinds : Kinds) (counts : Counts) (act : Act) (into : Reg)
    (from : List Reg) (c : ℕ) (w : Wave)
    (old new : State) (cells : ℕ → ℤ) → KeepsAllButOuts old new → IsStateIn areas piece kinds counts old
    → IsGiven old.outs c w new.outs
    → ((m : Machine VoiceState) → acts (voice_world areas piece) act into (map (values old.regs) from) m
    ≡ in_world (out_to c w m.world) m) → Does areas piece kinds counts act into from old cells new cells
gives_to areas piece kinds counts act into from c w old new cells rest state given does = record {
  machine = λ next asks cause. given_machine old new c w rest given cells next asks cause
      ∙ sym (does (machine_of old cells next asks cause));
  state = still_in areas piece kinds counts old new (record {
    counts = ap (λ r. r.counts) rest.regs;
    frames = ap (λ r. r.ksmps) rest.regs;
    channels = given.channels;
    channel_frames = given.ksmps;
    players = rest.players;
    row = ap (λ r. length r.items) rest.row ∙ state.row ∙ sym state.frames;
  }) state;
}

-- what is written to the channel with a number
pub numbered_channel : (channels : ℕ) (number : Option ℕ) (c : ℕ) (w : Wave) (x : VoiceState)
    → channel_below channels number ≡ Some c → out_to_numbered channels number w x ≡ out_to c w x
numbered_channel channels None c w x h = cc
numbered_channel channels (Some n) c w x h = at (nat_le 1 n && nat_le n channels) h
  where
    at : (b : Bool) → (if b then Some (n - 1) else None) ≡ Some c → (if b then out_to (n - 1) w x else x) ≡ out_to c w x
    at true e = ap (λ k. out_to k w x) (some_is (n - 1) c e)
    at false e = cc

-- nothing is written if there is no such channel
pub numbered_nowhere : (channels : ℕ) (number : Option ℕ) (w : Wave) (x : VoiceState)
    → ((c : ℕ) → channel_below channels number ≡ Some c → ⊥) → out_to_numbered channels number w x ≡ x
numbered_nowhere channels None w x never = refl
numbered_nowhere channels (Some n) w x never = at (nat_le 1 n && nat_le n channels) never
  where
    at : (b : Bool) → ((c : ℕ) → (if b then Some (n - 1) else None) ≡ Some c → ⊥)
        → (if b then out_to (n - 1) w x else x) ≡ x
    at true h = absurd (h (n - 1) refl)
    at false h = refl
