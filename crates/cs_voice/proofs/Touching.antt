-- What an op that runs a unit may do: its table, and the zak places that it reaches.
use Rattle.std.proofs.Common.{◌≡◌, ℕ, ℤ, pos, ◌+◌, ◌≤◌, Bool, true, false, not, ◌||◌, List, [], length, nat_lt}
use Rattle.std.proofs.Common.{unsigned_abs, Option, Some, None, if◌then◌else◌, refl, sym, ◌∙◌, ap, subst}
use Rattle.std.specs.Option.{is_some}
use Rattle.std.proofs.lemmas.Bool.{and_from, lt-ltb}
use Rattle.cs_base.proofs.Tests.{some_is}
use Rattle.cs_base.specs.{declared.resource.Rate.Rate, declared.resource.Res.Res}
use Rattle.cs_words.specs.{declared.catalogue.Opcode.Opcode, declared.catalogue.Space.Space, Catalogue.takes_table}
use Rattle.cs_gen.specs.Points.{len_of}
use Rattle.cs_ugen.specs.{Points.is_len, Units.IsUnitOpcode, Units.moving_count, Units.opcode_of, Units.reads_table}
use Rattle.cs_ir.specs.Resources.{Stock, places_of, places_within, reaches, tables_within}
use Rattle.cs_ir.specs.{declared.op.Reach.Reach, declared.register.Reg.Reg}
use Rattle.cs_cells.specs.{Access.Access, declared.footprint.Area.Area}
use Rattle.cs_meaning.specs.Pieces.{Piece}
use Rattle.cs_machine.specs.{Access.CanGet, Access.CanTouch, Players.PlayerData, Players.has_table}
use Rattle.cs_machine.specs.States.{IsOnTable, IsPlayerOf, MayGet, MaySet, MayTouch}
use Rattle.cs_machine.specs.{declared.state.NoteSetting.NoteSetting}
use Rattle.cs_voice_meaning.proofs.Naming.{found_number, named_among, place_named}
use Rattle.cs_voice_meaning.specs.{Follows.AreNamed, Placing.IsPlaced, Placing.area_of}
use Rattle.cs_voice.specs.{Cells.MayReach, Cells.MayStore, Units.MayPlay, Units.may_play}
use Rattle.cs_voice.proofs.Points.{IsLiveOn, live_table, table_taken, unit_result}
use Rattle.cs_base.specs.declared.resource.Res.TheVariants as res

-- ---- tables

-- what is known about the area of a unit's live table
pub record IsTouched (access : Access) (reach : Reach) (p : PlayerData) (area : Area) : Type 0 where
  pub power : is_len (len_of area.length) ≡ true
  pub small : area.first + area.length ≤ 65536
  pub can : may_play reach p ≡ true → CanGet access area

-- a table with an area isn't frozen
not_frozen : (frozen : Option (List ℤ)) (o area : Option Area) (a : Area) → area ≡ (if is_some frozen then None else o)
    → area ≡ Some a → frozen ≡ None
not_frozen None o area a is at = refl
not_frozen (Some points) o area a is at = absurd (cc)

in_reach : (has b : Bool) → (not has || b) ≡ true → has ≡ true → b ≡ true
in_reach true b h e = h
in_reach false b h e = absurd (cc)

the_area : (allowed : ℕ → Type 0) (count : ℕ) (areas : List Area) (g : Res) (a : Area) → area_of areas g ≡ Some a
    → MayTouch allowed count areas g → CanTouch allowed count a
the_area allowed count areas g a at may = subst (CanTouch allowed count) (some_is may.0 a (sym may.1 ∙ at)) may.2

pub touched : (access : Access) (areas : List Area) (stock : Stock) (piece : Piece) (reach : Reach) (p : PlayerData)
    (on : IsOnTable areas piece.tables p)
    → IsPlaced areas stock piece → AreNamed (MayGet access areas) (tables_within stock reach) → (area : Area)
    → p.area ≡ Some area → IsTouched access reach p area
touched access areas stock piece reach p on placed named area at =
    let open_table : on.table.frozen ≡ None =
    not_frozen on.table.frozen (area_of areas (res.Table on.table.number)) p.area area on.area at in
    let live : IsLiveOn areas on.table area = live_table areas stock piece p on placed open_table area at in
    record {
      power = subst (λ n. is_len (len_of n) ≡ true) (sym live.size) on.power;
      small = on.small area at;
      can = λ may. the_area access.can_get access.count areas (res.Table on.table.number) area live.area
          (named_among (MayGet access areas) res.Table reach stock.live named on.table.number
          (placed.tables p.table on.table on.found open_table).among
          (ap (reaches reach) (found_number piece.tables p.table on.table on.found)
          ∙ in_reach (has_table p) (reaches reach (unsigned_abs p.table)) may on.has));
    }

-- a unit with an area takes a table
takes_with : (areas : List Area) (piece : Piece) (kind : Opcode × Rate) (p : PlayerData) → IsPlayerOf areas piece kind p
    → (area : Area) → p.area ≡ Some area → takes_table kind.0 ≡ true
takes_with areas piece kind p is area at = sym (table_taken areas piece kind p is) ∙ has p.points p.area at
  where
    has : (points : Option (List ℤ)) (o : Option Area) → o ≡ Some area → (is_some points || is_some o) ≡ true
    has None o e = ap is_some e
    has (Some points) o e = refl

when_taken : (N : Res → Type 0) (b : Bool) (l : List Res) → AreNamed N (if b then l else []) → b ≡ true → AreNamed N l
when_taken N true l h e = h
when_taken N false l h e = absurd (cc)

pub may_run : (access : Access) (areas : List Area) (stock : Stock) (piece : Piece) (opcode : Opcode) (r : Rate)
    (reach : Reach) (from : List Reg) (p : PlayerData)
    → IsUnitOpcode opcode → length from ≡ moving_count opcode → IsPlaced areas stock piece
    → AreNamed (MayGet access areas) (if takes_table opcode then tables_within stock reach else [])
    → IsPlayerOf areas piece (opcode, r) p → MayPlay access reach from p
may_run access areas stock piece opcode r reach from p unit long placed named is =
    let same : opcode_of p.state ≡ opcode = is.state in
    let there : (area : Area) → p.area ≡ Some area → IsTouched access reach p area =
    λ area at. let takes = takes_with areas piece (opcode, r) p is area at in
    touched access areas stock piece reach p (is.table takes) placed
    (when_taken (MayGet access areas) (takes_table opcode) (tables_within stock reach) named takes) area at in
    record {
      unit = subst IsUnitOpcode (sym same) unit;
      operands = long ∙ ap moving_count (sym same);
      read = λ may. record {
        reads = ap reads_table same ∙ (unit_result opcode unit).table ∙ sym (table_taken areas piece (opcode, r) p is);
        live = λ area at. (there area at).can may;
        power = λ area at. (there area at).power;
        small = λ area at. (there area at).small;
      };
    }

-- a live table within reach may be stored into
pub may_store : (access : Access) (areas : List Area) (stock : Stock) (piece : Piece) (reach : Reach)
    → IsPlaced areas stock piece → AreNamed (MaySet access areas) (tables_within stock reach)
    → MayStore access areas reach
may_store access areas stock piece reach placed named n area within at =
    let is = placed.live n area at in
    let lies = placed.tables (pos n) is.table is.found is.live in
    let number : is.table.number ≡ n = found_number piece.tables (pos n) is.table is.found in
    let here : area_of areas (res.Table is.table.number) ≡ Some area =
    ap (λ m. area_of areas (res.Table m)) number ∙ at in
    record {
      power = ap (λ m. is_len (len_of m)) (lies.size area here) ∙ lies.power;
      write = the_area access.can_set access.count areas (res.Table is.table.number) area here
          (named_among (MaySet access areas) res.Table reach stock.live named is.table.number lies.among
          (ap (reaches reach) number ∙ within));
    }

-- ---- zak places

pub may_reach : (allowed : ℕ → Type 0) (count : ℕ) (at : NoteSetting) (stock : Stock) (piece : Piece) (s : Space)
    (reach : Reach) → stock.spaces ≡ piece.spaces → piece.spaces ≡ at.spaces
    → AreNamed (MayTouch allowed count at.layout.now) (places_within stock s reach) → MayReach allowed count at s reach
may_reach allowed count at stock piece s reach same here named n low within =
    place_named (MayTouch allowed count at.layout.now) stock at.spaces s reach n (same ∙ here) named
    (and_from (nat_lt n (places_of at.spaces s)) (reaches reach n) (lt-ltb n (places_of at.spaces s) low) within)
