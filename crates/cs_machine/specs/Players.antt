-- Players: a unit of a note, with the table that it was started with.
use Rattle.std.specs.Prelude.{ℕ, ℤ, ◌≡◌, Bool, true, ◌||◌, ◌+◌, ◌≤◌, List, [], Option, Some, None}
use Rattle.std.specs.Option.{is_some}
use Rattle.cs_machine.specs.Access.{CanGet, live_points}
use Rattle.cs_cells.specs.{Access.Access, declared.footprint.Area.Area}
use Rattle.cs_gen.specs.{Points.len_of, Tables.curve_of}
use Rattle.cs_ir.specs.Waves.{Wave}
use Rattle.cs_ugen.specs.{Points.is_len, declared.unit.UnitState.UnitState}
use Rattle.cs_signal.specs.Steps.{run}
use Rattle.cs_voice_meaning.specs.VoiceWorld.{Playing, inputs_at}
use Rattle.cs_ugen.specs.Units.{opcode_of, reads_table, unit_step}

-- A unit as it is stored: the number of the table that it was started with, its state, and where the table
-- is: the points of a frozen one, or the area of a live one.
pub record PlayerData : Type 0 where
  pub table : ℤ
  pub state : UnitState
  pub points : Option (List ℤ)
  pub area : Option Area

-- the unit and the number of its table
abbrev pub playing : PlayerData → Playing
playing p = record { table = p.table; state = p.state }

-- the curve that the unit reads: the points, followed by the guard point; empty if it has no table
abbrev pub curve_at : Option (List ℤ) → Option Area → (ℕ → ℤ) → List ℤ
curve_at (Some points) area cells = curve_of points
curve_at None (Some area) cells = curve_of (live_points area cells)
curve_at None None cells = []

-- whether it has a table
abbrev pub has_table : PlayerData → Bool
has_table p = is_some p.points || is_some p.area

-- the unit reads a table if and only if the player has one, and a live one can be read
pub record CanRead (access : Access) (p : PlayerData) : Type 0 where
  pub reads : reads_table (opcode_of p.state) ≡ has_table p
  pub live : (area : Area) → p.area ≡ Some area → CanGet access area
  pub power : (area : Area) → p.area ≡ Some area → is_len (len_of area.length) ≡ true
  pub small : (area : Area) → p.area ≡ Some area → area.first + area.length ≤ 65536

-- what stays the same in a player while it plays
pub record SamePlayer (p q : PlayerData) : Type 0 where
  pub table : q.table ≡ p.table
  pub points : q.points ≡ p.points
  pub area : q.area ≡ p.area
  pub unit : opcode_of q.state ≡ opcode_of p.state

-- n steps of a player on cells, with values over a cycle as arguments
abbrev pub stepped : PlayerData → List Wave → (ℕ → ℤ) → ℕ → UnitState × List ℤ
stepped p ws cells n = run unit_step (inputs_at ws (curve_at p.points p.area cells)) p.state 0 n
