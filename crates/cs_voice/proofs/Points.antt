-- A unit reads those points of its table that the definition reads.
use Rattle.std.proofs.Common.{◌≡◌, ℤ, Bool, true, false, not, ◌||◌, List, [], map, unsigned_abs, Option, Some, None}
use Rattle.std.proofs.Common.{if◌then◌else◌, refl, sym, ◌∙◌, ap}
use Rattle.std.specs.{List.range_with_len, Option.is_some}
use Rattle.cs_base.proofs.Tests.{by_test}
use Rattle.cs_base.specs.declared.resource.Rate.{Rate}
use Rattle.cs_words.specs.{declared.catalogue.Opcode.Opcode, Catalogue.row_of, Catalogue.takes_table}
use Rattle.cs_words.proofs.EachOpcode.{when_all}
use Rattle.cs_gen.specs.Tables.{curve_of}
use Rattle.cs_ugen.specs.Units.{IsUnitOpcode, reads_table}
use Rattle.cs_ir.specs.{Machine.gives, Units.is_unit, Resources.Stock, Resources.reaches, declared.op.Reach.Reach}
use Rattle.cs_cells.specs.declared.footprint.Area.{Area}
use Rattle.cs_meaning.specs.Model.{unit_points}
use Rattle.cs_meaning.specs.Pieces.{Piece, Table, find_table, may_touch, points_of, read_points}
use Rattle.cs_machine.specs.Players.{PlayerData, curve_at, has_table, playing}
use Rattle.cs_voice_meaning.specs.Placing.{IsPlaced, area_of, wave_in, wave_of}
use Rattle.cs_voice_meaning.specs.VoiceWorld.{VoiceState, read_cells, voice_model}
use Rattle.cs_machine.specs.States.{IsOnTable, IsPlayerOf}
use Rattle.cs_voice.specs.Units.{may_play}
use Rattle.cs_base.specs.declared.resource.Rate.TheVariants as rate
use Rattle.cs_base.specs.declared.resource.Res.TheVariants as res

-- an opcode that computes a result has one, and reads a table if and only if it takes one
pub record IsResult (o : Opcode) : Type 0 where
  pub some : gives o ≡ true
  pub table : reads_table o ≡ takes_table o

same_bool : (a b : Bool) → (if a then b else not b) ≡ true → a ≡ b
same_bool true b h = sym h
same_bool false true h = absurd (cc)
same_bool false false h = refl

pub unit_result : (o : Opcode) → IsUnitOpcode o → IsResult o
unit_result o h =
    let unit : is_unit (row_of o).shape ≡ true = ap is_unit h in
    record {
      some = when_all (λ o. is_unit (row_of o).shape) gives refl o unit;
      table = same_bool (reads_table o) (takes_table o)
          (when_all (λ o. is_unit (row_of o).shape) (λ o. if reads_table o then takes_table o else not (takes_table o))
          refl o unit);
    }

-- a unit has a table if and only if its opcode takes one
no_table : (points : Option (List ℤ)) (area : Option Area) → (points ≡ None) × (area ≡ None)
    → (is_some points || is_some area) ≡ false
no_table points area h = ap (λ o. is_some o || is_some area) h.0 ∙ ap is_some h.1

pub table_taken : (areas : List Area) (piece : Piece) (kind : Opcode × Rate) (p : PlayerData)
    → IsPlayerOf areas piece kind p → has_table p ≡ takes_table kind.0
table_taken areas piece kind p is = by_test (takes_table kind.0)
    (λ takes. (is.table takes).has ∙ sym takes)
    (λ none. no_table p.points p.area (is.none none) ∙ sym none)

-- so a unit may touch what the definition lets it touch
pub same_reach : (areas : List Area) (piece : Piece) (opcode : Opcode) (r : Rate) (reach : Reach) (p : PlayerData)
    → IsPlayerOf areas piece (opcode, r) p → may_touch opcode reach p.table ≡ may_play reach p
same_reach areas piece opcode r reach p is =
    ap (λ b. not b || reaches reach (unsigned_abs p.table)) (sym (table_taken areas piece (opcode, r) p is))

-- the area of a live table has a cell for each point
live_area : (areas : List Area) (t : Table) (p : PlayerData)
    → p.area ≡ (if is_some t.frozen then None else area_of areas (res.Table t.number))
    → t.frozen ≡ None → p.area ≡ area_of areas (res.Table t.number)
live_area areas t p is live = is ∙ ap (λ o. if is_some o then None else area_of areas (res.Table t.number)) live

-- the points that are read of a table, by whether it is frozen and where it is
points_of_table : (areas : List Area) (t : Table) (frozen : Option (List ℤ)) (area : Option Area) (x : VoiceState)
    → (is_some frozen || is_some area) ≡ true
    → (frozen ≡ None → (area ≡ area_of areas (res.Table t.number)) × ((a : Area) → area ≡ Some a → a.length ≡ t.size))
    → curve_of (points_of (λ g. read_cells areas g x.shared) t frozen) ≡ curve_at frozen area x.shared
points_of_table areas t (Some points) area x has live = refl
points_of_table areas t None None x has live = absurd (cc)
points_of_table areas t None (Some a) x has live =
    let there : area_of areas (res.Table t.number) ≡ Some a = sym (live refl).0 in
    ap (λ o. curve_of (map (wave_of o rate.Audio x.shared) (range_with_len 0 t.size))) there
    ∙ ap (λ n. curve_of (map (wave_in rate.Audio a x.shared) (range_with_len 0 n))) (sym ((live refl).1 a refl))

-- a live table has its area, with a cell for each point
pub record IsLiveOn (areas : List Area) (t : Table) (a : Area) : Type 0 where
  pub area : area_of areas (res.Table t.number) ≡ Some a
  pub size : a.length ≡ t.size

pub live_table : (areas : List Area) (stock : Stock) (piece : Piece) (p : PlayerData)
    (on : IsOnTable areas piece.tables p) → IsPlaced areas stock piece
    → on.table.frozen ≡ None → (a : Area) → p.area ≡ Some a → IsLiveOn areas on.table a
live_table areas stock piece p on placed live a at =
    let there : area_of areas (res.Table on.table.number) ≡ Some a =
    sym (live_area areas on.table p on.area live) ∙ at in
    record { area = there; size = (placed.tables p.table on.table on.found live).size a there }

pub same_points : (areas : List Area) (stock : Stock) (piece : Piece) (opcode : Opcode) (r : Rate) (p : PlayerData)
    (x : VoiceState) → IsPlaced areas stock piece → IsPlayerOf areas piece (opcode, r) p
    → unit_points (voice_model areas piece) opcode (playing p) x ≡ curve_at p.points p.area x.shared
same_points areas stock piece opcode r p x placed is = by_test (takes_table opcode)
    (λ takes. let on = is.table takes in
    ap (λ b. if b then read_points (λ g. read_cells areas g x.shared) (find_table piece.tables p.table) else []) takes
    ∙ ap (read_points (λ g. read_cells areas g x.shared)) on.found
    ∙ ap (λ f. curve_of (points_of (λ g. read_cells areas g x.shared) on.table f)) (sym on.points)
    ∙ points_of_table areas on.table p.points p.area x on.has
    (λ none. let live : on.table.frozen ≡ None = sym on.points ∙ none in
    (live_area areas on.table p on.area live, λ a at. (live_table areas stock piece p on placed live a at).size)))
    (λ none. ap (λ b. if b then read_points (λ g. read_cells areas g x.shared) (find_table piece.tables p.table) else
    []) none
    ∙ sym (ap (λ o. curve_at o p.area x.shared) (is.none none).0 ∙ ap (λ o. curve_at None o x.shared) (is.none none).1))
