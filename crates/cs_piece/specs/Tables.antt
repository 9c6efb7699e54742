-- The tables of a piece: those that the score defines, each once, and which of them stay as they are made.
use Rattle.std.specs.Prelude.{ℕ, ℤ, Bool, false, not, ◌&&◌, ◌||◌, ◌==◌, List, [], ◌∷◌, filter, count_by, map, nat_lt}
use Rattle.std.specs.Prelude.{unsigned_abs, Some, None, if◌then◌else◌}
use Rattle.std.specs.List.{flat_map, list_any}
use Rattle.cs_base.specs.Rates.{same_res}
use Rattle.cs_code.specs.Lowered.{bodies}
use Rattle.cs_gen.specs.Points.{points_of}
use Rattle.cs_ir.specs.Resources.{Stock}
use Rattle.cs_meaning.specs.{Uses.block_begin_writes, Uses.block_writes, Core.Block, Core.core, Plain.Table}
use Rattle.cs_tempo.specs.{declared.plot.Event.Event, declared.plot.EventAct.EventAct}
use Rattle.cs_voice.specs.{Tables.table_at, declared.stage.PieceTable.PieceTable}
use Rattle.cs_base.specs.declared.resource.Res.TheVariants as res
use Rattle.cs_tempo.specs.declared.plot.EventAct.TheVariants as act
use Rattle.cs_typed.specs.TypedTree as typed

-- A table as an event defines it: its number, size, GEN routine and arguments.
pub record Given : Type 0 where
  pub number : ℕ
  pub size : ℤ
  pub gen : ℤ
  pub args : List ℤ

-- the tables that an event defines
abbrev pub given_by : EventAct → List Given
given_by (act.Start instr cycles fields) = []
given_by (act.Table number size gen args) = record { number = number; size = size; gen = gen; args = args } ∷ []

-- the tables that events define, in their order
abbrev pub given_in : List Event → List Given
given_in events = flat_map (λ e. given_by e.act) events

-- each number once, with its first definition
abbrev pub firsts : List Given → List Given
firsts [] = []
firsts (g ∷ rest) = g ∷ filter (λ h. not (h.number == g.number)) (firsts rest)

-- how often a number is defined
abbrev pub times_given : ℕ → List Given → ℕ
times_given n gs = count_by (λ g. g.number == n) gs

-- a piece whose only live table is this one
abbrev pub only : ℕ → Stock
only n = record { spaces = record { control = 0; audio = 0 }; live = n ∷ [] }

-- Statements may write a table, as a note begins or in a cycle: one named by a literal number, or any.
abbrev pub stores_into : ℕ → Block → Bool
stores_into n b =
    list_any (same_res (res.Table n)) (block_begin_writes (only n) b)
    || list_any (same_res (res.Table n)) (block_writes (only n) b)

-- some instrument may write a table
abbrev pub may_be_written : typed.Orchestra → ℕ → Bool
may_be_written o n = list_any (λ (p : ℕ × typed.Block). stores_into n (core o.spaces p.1)) (bodies o.instrs)

-- A table is frozen if only one event defines it and no instrument may write it.
abbrev pub is_frozen : typed.Orchestra → List Given → ℕ → Bool
is_frozen o gs n = (times_given n gs == 1) && not (may_be_written o n)

-- a table as it is defined, frozen or not; it hasn't been made yet
abbrev pub table_given : Bool → Given → Table
table_given frozen g = record {
  number = g.number;
  size = unsigned_abs g.size;
  frozen = if frozen then Some (points_of g.size g.gen g.args) else None;
  present = false;
}

-- a table as a composition with these definitions has it
abbrev pub table_in : typed.Orchestra → List Given → Given → Table
table_in o gs g = table_given (is_frozen o gs g.number) g

-- a table inserted after those with lower numbers
abbrev pub put_in : Table → List Table → List Table
put_in t [] = t ∷ []
put_in t (u ∷ rest) = if nat_lt u.number t.number then u ∷ put_in t rest else t ∷ u ∷ rest

-- tables in ascending order of number
abbrev pub ascending : List Table → List Table
ascending [] = []
ascending (t ∷ rest) = put_in t (ascending rest)

-- the tables of a plot, each once, in ascending order of number
abbrev pub tables_in : typed.Orchestra → List Event → List Table
tables_in o events = ascending (map (table_in o (given_in events)) (firsts (given_in events)))

-- a table as the composition has it, which hasn't been made yet
abbrev pub table_of : PieceTable → Table
table_of t = table_at t false
