-- Units that are started: what a note stores of each, and why one isn't started.
use Rattle.std.specs.Prelude.{ℕ, ℤ, ◌≡◌, ◌≤◌, List, slice_set, Option, Some, None, if◌then◌else◌}
use Rattle.std.specs.Option.{is_some, option_map}
use Rattle.cs_base.specs.{Limits.most_delay_samples, declared.resource.Rate.Rate}
use Rattle.cs_words.specs.declared.catalogue.Opcode.{Opcode}
use Rattle.cs_ugen.specs.declared.unit.UnitState.{UnitState}
use Rattle.cs_ir.specs.{Machine.in_world, declared.register.Counts.Counts}
use Rattle.cs_cells.specs.declared.footprint.Area.{Area}
use Rattle.cs_meaning.specs.Model.{Cause, delay_too_long, no_table, starts}
use Rattle.cs_meaning.specs.Pieces.{Piece, Table}
use Rattle.cs_voice_meaning.specs.{Placing.area_of, VoiceWorld.voice_model, Follows.Kinds}
use Rattle.cs_machine.specs.{Players.PlayerData, States.machine_of, States.IsStateIn, declared.state.State.State}
use Rattle.cs_voice.specs.declared.begin.StartRefusal.{StartRefusal}
use Rattle.cs_base.specs.declared.resource.Res.TheVariants as res
use Rattle.cs_voice.specs.declared.begin.StartRefusal.TheVariants as refusal

-- the player of a unit on a table
abbrev pub player_on : List Area → Table → ℤ → UnitState → PlayerData
player_on areas t number unit = record {
  table = number;
  state = unit;
  points = t.frozen;
  area = if is_some t.frozen then None else area_of areas (res.Table t.number);
}

-- the player of a unit without a table
abbrev pub player_alone : ℤ → UnitState → PlayerData
player_alone number unit = record { table = number; state = unit; points = None; area = None }

-- the player of a unit was put into a state, whose delays have `samples` samples now
pub record HasUnit (old : State) (unit : ℕ) (p : PlayerData) (samples : ℕ) (new : State) : Type 0 where
  pub players : new.players.items ≡ slice_set old.players.items unit (Some p)
  pub delays : new.delays ≡ samples
  pub regs : new.regs ≡ old.regs
  pub outs : new.outs ≡ old.outs
  pub ended : new.ended ≡ old.ended
  pub row : new.row ≡ old.row

-- why a note doesn't start
abbrev pub cause_of : StartRefusal → Cause
cause_of (refusal.NoTable number) = no_table number
cause_of (refusal.DelayTooLong samples) = delay_too_long samples

-- A state becomes what the start of a unit makes of it in the world of voices, or is refused for the same
-- cause; its delays stay within their limit.
pub record Starts (areas : List Area) (piece : Piece) (kinds : Kinds) (counts : Counts) (opcode : Opcode) (rate : Rate)
    (unit : ℕ)
    (settled : List ℤ) (old new : State) (refused : Option StartRefusal) : Type 0 where
  pub machine : (cells : ℕ → ℤ) (next : ℕ) (asks : List (List ℤ))
      → machine_of new cells next asks (option_map cause_of refused)
      ≡ in_world (starts (voice_model areas piece) opcode rate unit settled (machine_of old cells next asks None).world)
      (machine_of old cells next asks None)
  pub state : IsStateIn areas piece kinds counts new
  pub delays : new.delays ≤ most_delay_samples
