-- Setups: what one consists of, and the composition that it performs.
use Rattle.std.specs.Prelude.{ℤ, ◌≡◌, ◌≤◌, List, map, None, Some}
use Rattle.std.specs.{List.AllZip, List.Contains, Option.option_map}
use Rattle.cs_base.specs.{Limits.most_statements, declared.head.Head.Head, declared.spaces.Spaces.Spaces}
use Rattle.cs_cells.specs.{Areas.limit_passed, declared.footprint.Area.Area, declared.footprint.Footprint.Footprint}
use Rattle.cs_code.specs.Lowered.{AreInstrumentsOf, IsCodeOf, bodies}
use Rattle.cs_code.specs.declared.orchestra.Lowered.{Lowered}
use Rattle.cs_meaning.specs.Core.{Block, core}
use Rattle.cs_piece_meaning.specs.{Bounded.asks_in, Moments.Composition}
use Rattle.cs_ir.specs.Instruments.{Numbered}
use Rattle.cs_name_laws.specs.Names.{NamesWhatThereIs}
use Rattle.cs_rwset.specs.Zones.{AreZones, IsFootOver}
use Rattle.cs_tempo.specs.{Performable.IsPerformable, declared.plot.Event.Event, declared.plot.Plot.Plot}
use Rattle.cs_typed.specs.declared.tree.TypedOrc.{TypedOrc}
use Rattle.cs_piece.specs.Compositions.{areas_in, body_of, composition}
use Rattle.cs_piece.specs.Tables.{Given, given_in, table_of, tables_in}
use Rattle.cs_voice.specs.declared.stage.PieceTable.{PieceTable}
use Rattle.cs_typed.specs.TypedTree as typed

-- tables that events define under one number have the same size
abbrev pub AreOfOneSize : List Event → Type 0
AreOfOneSize events = (g h : Given) → Contains (given_in events) g → Contains (given_in events) h → g.number ≡ h.number
    → g.size ≡ h.size

-- each instrument schedules no more notes than it may have statements
abbrev pub AskForFew : typed.Orchestra → Type 0
AskForFew o = (z : ℤ) (body : Block) → option_map (core o.spaces) (body_of (bodies o.instrs) z) ≡ Some body
    → asks_in body ≤ most_statements

-- What contracts see of a setup: header and zak spaces, the typed orchestra as it was when its codes were
-- made, the plot, its tables, the layout of the cells that notes share, the codes, the zones of the layout,
-- and the footprints in terms of zones: of the code outside of instruments, and of the instruments in their
-- order.
pub record SetupData : Type 0 where
  pub head : Head
  pub spaces : Spaces
  pub orchestra : TypedOrc
  pub plot : Plot
  pub tables : List PieceTable
  pub layout : List Area
  pub lowered : Lowered
  pub zones : List Area
  pub zero_foot : Footprint
  pub feet : List Footprint

-- A setup: header and zak spaces are the orchestra's, its instruments schedule few notes, the tables are the
-- plot's, the areas are the piece's and within the limits, the codes are the orchestra's, the zones are zones
-- of the areas, and the footprints in terms of them are the codes'.
pub record IsSetup (s : SetupData) : Type 0 where
  pub head_is : s.head ≡ s.orchestra.head
  pub spaces_are : s.spaces ≡ s.orchestra.spaces
  pub performable : IsPerformable s.orchestra.head s.plot
  pub sizes : AreOfOneSize s.plot.events
  pub asks : AskForFew (typed.orchestra s.orchestra)
  pub named : NamesWhatThereIs (typed.orchestra s.orchestra)
  pub tables_are : map table_of s.tables ≡ tables_in (typed.orchestra s.orchestra) s.plot.events
  pub areas_are : s.layout ≡ areas_in (typed.orchestra s.orchestra) s.plot.events
  pub within : limit_passed s.layout ≡ None
  pub zero_code : IsCodeOf (typed.orchestra s.orchestra).spaces s.orchestra.head.nchnls
      (typed.orchestra s.orchestra).zero
      s.lowered.zero.init s.lowered.zero.perf
  pub instruments : AreInstrumentsOf (typed.orchestra s.orchestra) s.lowered.instruments
  pub zones_are : AreZones s.layout s.zones
  pub zero_touches : IsFootOver s.layout s.zones s.lowered.zero.perf s.zero_foot
  pub touch : AllZip (λ (i : Numbered) (foot : Footprint). IsFootOver s.layout s.zones i.perf foot)
      s.lowered.instruments
      s.feet

-- what a setup performs
abbrev pub composition_of : SetupData → Composition
composition_of s = composition (typed.orchestra s.orchestra) s.plot
