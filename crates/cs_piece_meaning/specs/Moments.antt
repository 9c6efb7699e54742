-- The composition that is performed, and the state of the performance between two steps of a control cycle.
use Rattle.std.specs.Prelude.{ℕ, ℤ, pos, ◌-◌, ◌==◌, Bool, not, List, ◌∷◌, ◌++◌, filter, int_lt, map, slice_index_or}
use Rattle.std.specs.{Prelude.Option, List.list_any}
use Rattle.cs_base.specs.{declared.resource.Res.Res, declared.spaces.Spaces.Spaces}
use Rattle.cs_typed.specs.Places.{Header}
use Rattle.cs_ir.specs.Waves.{Wave}
use Rattle.cs_meaning.specs.{Core.Block, Notes.Note, Plain.Piece, Plain.Plain, Plain.Table}
use Rattle.cs_sched.specs.{Times.Clock, Waiting.Waiting}
use Rattle.cs_ugen.specs.Generators.{pace_of, the_generators}
use Rattle.cs_tempo.specs.declared.plot.Event.{Event}

-- The content of two accepted texts: the header, the zak spaces, the statements outside instruments, and the
-- statements of the instrument with each number; every table of the score as if none were made yet, the
-- events in order, and the length in control cycles.
pub record Composition : Type 0 where
  pub head : Header
  pub spaces : Spaces
  pub outside : Block
  pub instrument : ℤ → Option Block
  pub tables : List Table
  pub events : List Event
  pub cycles : ℕ

-- A note that plays: its instrument, its age, which is the number of notes started before it, the cycle in
-- which it has ended, its p-fields, its statements, and its state.
pub record Active : Type 0 where
  pub number : ℤ
  pub age : ℕ
  pub ends : ℕ
  pub fields : List ℤ
  pub body : Block
  pub note : Note Plain

-- A moment of the performance: the shared resources, and the numbers of the tables that were made; the notes
-- that play, in the order in which they are performed, and the notes that wait; the number of starts that
-- started a note, and the number that didn't.
pub record Moment : Type 0 where
  pub shared : Res → Wave
  pub made : List ℕ
  pub active : List Active
  pub waiting : Waiting
  pub started : ℕ
  pub not_started : ℕ

-- a table with the mark whether it is made, given the numbers of the tables that were made
abbrev pub as_made : List ℕ → Table → Table
as_made made t = record t { present = list_any (λ n. n == t.number) made }

-- a p-field, counted from 1; an omitted one is 0
abbrev pub field_of : List ℤ → ℕ → ℤ
field_of fields k = slice_index_or fields (k - 1) (pos 0)

-- the piece in which a note with these p-fields plays, given the numbers of the tables that were made
abbrev pub piece_with : Composition → List ℕ → List ℤ → Piece
piece_with c made fields = record {
  head = c.head;
  spaces = c.spaces;
  tables = map (as_made made) c.tables;
  generators = the_generators (pace_of c.head);
  fields = field_of fields;
}

-- whether x is at most y
abbrev pub at_most : ℤ → ℤ → Bool
at_most x y = not (int_lt y x)

-- the time scale of a composition
abbrev pub clock_of : Composition → Clock
clock_of c = record { sr = c.head.sr; ksmps = c.head.ksmps; cycles = c.cycles }

-- a note is placed after the notes of lower instruments and after the older notes of its instrument
abbrev pub placed : Active → List Active → List Active
placed n active = filter (λ a. at_most a.number n.number) active ++ n
    ∷ filter (λ a. not (at_most a.number n.number)) active
