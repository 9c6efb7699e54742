-- The voice's world: shared resources are cells by address, and each unit is its present state.
use Rattle.std.specs.Prelude.{ℕ, ℤ, pos, Bool, ◌&&◌, ◌++◌, List, map, Some, if◌then◌else◌}
use Rattle.std.specs.List.{list_any}
use Rattle.cs_base.specs.{Rates.res_rate, declared.resource.Rate.Rate, declared.resource.Res.Res}
use Rattle.cs_signal.specs.{Delay.delay_length, Operands.argument, Steps.run}
use Rattle.cs_ugen.specs.{Generators.pace_of, Units.unit_start, Units.unit_step, declared.unit.UnitState.UnitState}
use Rattle.cs_ir.specs.{Waves.Wave, Worlds.World}
use Rattle.cs_cells.specs.{Cells.in_area, declared.footprint.Area.Area}
use Rattle.cs_meaning.specs.Model.{State, WorldModel, fresh_state, world_of}
use Rattle.cs_meaning.specs.Pieces.{Piece, steps_of, step_at, table_number}
use Rattle.cs_voice_meaning.specs.Placing.{area_of, wave_of, with_wave}

-- A unit that plays: the number of the table that it was started with, and its present state.
pub record Playing : Type 0 where
  pub table : ℤ
  pub state : UnitState

-- the state of the voice's world
abbrev pub VoiceState : Type 0
VoiceState = State (ℕ → ℤ) Playing

-- the state as a voice begins, over these cells
abbrev pub fresh_voice : (ℕ → ℤ) → VoiceState
fresh_voice = fresh_state

-- a resource is read from its area, and written into it
abbrev pub read_cells : List Area → Res → (ℕ → ℤ) → Wave
read_cells areas g cells = wave_of (area_of areas g) (res_rate g) cells

-- a resource is written into its area
abbrev pub write_cells : List Area → Res → Wave → (ℕ → ℤ) → ℕ → ℤ
write_cells areas g w cells = with_wave (area_of areas g) w cells

-- whether a cell belongs to a resource that is cleared
abbrev pub lies_cleared : List Area → (Res → Bool) → ℕ → Bool
lies_cleared areas clears a = list_any (λ area. in_area (Some area) a && clears area.res) areas

-- the cells of some resources are set to 0
abbrev pub clear_cells : List Area → (Res → Bool) → (ℕ → ℤ) → ℕ → ℤ
clear_cells areas clears cells a = if lies_cleared areas clears a then pos 0 else cells a

-- the inputs of a step: the moving arguments, followed by the points
abbrev pub inputs_at : List Wave → List ℤ → ℕ → List ℤ
inputs_at ws points j = map (λ w. w j) ws ++ points

-- the steps of a cycle: the unit after them, and their results
abbrev pub played : ℕ → Rate → Playing → List Wave → List ℤ → UnitState × List ℤ
played ksmps r p ws points = run unit_step (inputs_at ws points) p.state 0 (steps_of ksmps r)

-- the unit after the steps of a cycle, and its result at each frame
abbrev pub has_played : Rate → Playing → UnitState × List ℤ → Playing × Wave
has_played r p done = (record p { state = done.0 }, λ j. argument done.1 (step_at r j))

-- the world of a piece's voices, over areas
abbrev pub voice_model : List Area → Piece → WorldModel (ℕ → ℤ) Playing
voice_model areas piece = record {
  piece = piece;
  load = read_cells areas;
  save = write_cells areas;
  clear = clear_cells areas;
  start = λ opcode r is. record { table = table_number is; state = unit_start opcode r (pace_of piece.head) is };
  delay = delay_length (pace_of piece.head);
  table = λ p. p.table;
  plays = λ r ws points p. has_played r p (played piece.head.ksmps r p ws points);
}

-- the world in which a piece's voices perform, over areas
abbrev pub voice_world : List Area → Piece → World VoiceState
voice_world areas piece = world_of (voice_model areas piece)
