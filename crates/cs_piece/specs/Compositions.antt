-- The composition that a typed orchestra and a plot define.
use Rattle.std.specs.Prelude.{ℕ, ℤ, pos, not, List, [], ◌∷◌, filter, map, Option, Some, None, if◌then◌else◌}
use Rattle.std.specs.{Option.is_some, Option.option_map, Ordering.int_eq}
use Rattle.cs_cells.specs.declared.footprint.Area.{Area}
use Rattle.cs_code.specs.Lowered.{bodies}
use Rattle.cs_piece_meaning.specs.Moments.{Composition}
use Rattle.cs_layout.specs.{Layouts.areas_of, declared.areas.LiveTable.LiveTable}
use Rattle.cs_meaning.specs.{Core.core, Plain.Table}
use Rattle.cs_tempo.specs.{declared.plot.Event.Event, declared.plot.Plot.Plot}
use Rattle.cs_piece.specs.Tables.{tables_in}
use Rattle.cs_typed.specs.TypedTree as typed
pub use Rattle.cs_piece.specs.Tables.{Given, given_by, given_in, firsts, is_frozen, may_be_written, only, stores_into}
pub use Rattle.cs_piece.specs.Tables.{table_in}

-- the live tables: those whose points are cells
abbrev pub live_in : List Table → List LiveTable
live_in tables = map (λ (t : Table). record { number = t.number; size = t.size })
    (filter (λ (t : Table). not (is_some t.frozen)) tables)

-- the areas of a piece's cells
abbrev pub areas_in : typed.Orchestra → List Event → List Area
areas_in o events = areas_of o.head.ksmps o.globals o.spaces (live_in (tables_in o events))

-- the body of the instrument with a number
abbrev pub body_of : List (ℕ × typed.Block) → ℤ → Option typed.Block
body_of [] z = None
body_of (p ∷ rest) z = if int_eq z (pos p.0) then Some p.1 else body_of rest z

-- What is performed.
abbrev pub composition : typed.Orchestra → Plot → Composition
composition o plot = record {
  head = o.head;
  spaces = o.spaces;
  outside = core o.spaces o.zero;
  instrument = λ z. option_map (core o.spaces) (body_of (bodies o.instrs) z);
  tables = tables_in o plot.events;
  events = plot.events;
  cycles = plot.cycles;
}
