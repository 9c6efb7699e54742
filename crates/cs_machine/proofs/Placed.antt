-- Players, by the place of their units' tables.
use Rattle.std.proofs.Common.{◌≡◌, ◌∙◌, ◌||◌, ℕ, ℤ, List, Option, Some, ap, sym}
use Rattle.std.specs.Option.{is_some}
use Rattle.cs_cells.specs.{Access.Access, declared.footprint.Area.Area}
use Rattle.cs_machine.specs.Players.{CanRead, PlayerData, SamePlayer, curve_at, has_table}
use Rattle.cs_machine.specs.{Readings.area_in, Readings.points_in, declared.player.Reads.Reads}
use Rattle.cs_machine.specs.declared.player.Reads.TheVariants as place
use Rattle.cs_ugen.specs.{Units.opcode_of, Units.reads_table, declared.unit.UnitState.UnitState}

-- the player that these fields represent
abbrev pub placed : ℤ → UnitState → Reads → PlayerData
placed table unit reads = record { table = table; state = unit; points = points_in reads; area = area_in reads }

pub reads_at : {access : Access} {p : PlayerData} {table : ℤ} {unit : UnitState} {reads found : Reads}
    → CanRead access p → placed table unit reads ≡ p → reads ≡ found
    → reads_table (opcode_of unit) ≡ (is_some (points_in found) || is_some (area_in found))
reads_at can is at = ap (λ q. reads_table (opcode_of q.state)) is ∙ can.reads ∙ ap has_table (sym is)
    ∙ ap (λ r. is_some (points_in r) || is_some (area_in r)) at

pub area_at : {p : PlayerData} {table : ℤ} {unit : UnitState} {reads : Reads} {area : Area}
    → placed table unit reads ≡ p → reads ≡ place.Live area → p.area ≡ Some area
area_at is at = ap (λ q. q.area) (sym is) ∙ ap area_in at

pub curve_from : {p : PlayerData} {table : ℤ} {unit : UnitState} {reads found : Reads}
    → placed table unit reads ≡ p → reads ≡ found → (cells : ℕ → ℤ)
    → curve_at (points_in found) (area_in found) cells ≡ curve_at p.points p.area cells
curve_from is at cells = ap (λ r. curve_at (points_in r) (area_in r) cells) (sym at)
    ∙ ap (λ q. curve_at q.points q.area cells) is

-- a player whose table is where it was, and whose unit has the same opcode
pub stays_at : {p : PlayerData} {table : ℤ} {unit new : UnitState} {old points : Option (List ℤ)}
    {before area : Option Area} → (record { table = table; state = unit; points = old; area = before }) ≡ p
    → points ≡ old → area ≡ before → opcode_of new ≡ opcode_of unit
    → SamePlayer p (record { table = table; state = new; points = points; area = area })
stays_at is points area unit = record {
  table = ap (λ q. q.table) is;
  points = points ∙ ap (λ q. q.points) is;
  area = area ∙ ap (λ q. q.area) is;
  unit = unit ∙ ap (λ q. opcode_of q.state) is;
}
