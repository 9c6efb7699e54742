-- Small performances in which the order can be heard: eight frames a second, four frames a control cycle, one
-- channel.
use Rattle.std.specs.Prelude.{ℕ, pos, negsuc, List, [], ◌∷◌, None, false}
use Rattle.cs_typed.specs.TypedTree.{number, var, field, pair, value, Expression, Statement, set, call, choose}
use Rattle.cs_typed.specs.TypedTree.{Block as Statements, no_stmt, andthen, otherwise, arm}
use Rattle.cs_typed.specs.declared.tree.Var.TheVariants.{Local, Global}
use Rattle.cs_meaning.specs.Examples.{counting, no_code, telling, whole, zeros}
use Rattle.cs_tempo.specs.declared.plot.Event.{Event}
use Rattle.cs_piece_meaning.specs.{Examples.note, Examples.piece_of_two, Examples.sounding_p4, Moments.Composition}
use Rattle.cs_base.specs.declared.resource.Rate.TheVariants as rate
use Rattle.cs_base.specs.declared.resource.Res.TheVariants as res
use Rattle.cs_words.specs.declared.catalogue.Opcode.TheVariants as op
use Rattle.cs_words.specs.declared.sign.BinOp.TheVariants as sign
use Rattle.cs_tempo.specs.declared.plot.EventAct.TheVariants as act

abbrev lit : ℕ → Expression
lit n = number rate.Init (whole n)

abbrev first : Statement → Statements → Statements
first s rest = andthen s rest

-- if p4 == 1 then gk1 = gk1 + 1 else a1 = gk1, out a1: the `if` is decided once, as the note begins
abbrev pub counting_or_telling : Statements
counting_or_telling =
    first (choose 4 rate.Init
    (arm (pair rate.Init sign.Equal (field rate.Init 4) (lit 1)) counting (otherwise telling))) no_stmt

-- two notes of one instrument over two cycles, with these values of p4, one started after the other
abbrev pub two_of_one : ℕ → ℕ → Composition
two_of_one p q = piece_of_two zeros counting_or_telling no_code (note 1 0 2 (whole p) ∷ note 1 0 2 (whole q) ∷ []) 2

-- k1 table 0, 1; a1 = k1; out a1
abbrev pub sounding_table : Statements
sounding_table =
    first (call 3 rate.Control (Local rate.Control 0 ∷ []) op.Table (value (lit 0) ∷ value (lit 1) ∷ []))
    (first (set 4 rate.Audio (Local rate.Audio 0) (var rate.Control (Local rate.Control 0)))
    (first (call 5 rate.Audio [] op.Out (value (var rate.Audio (Local rate.Audio 0)) ∷ [])) no_stmt))

-- table 1 is made in a cycle: GEN -2 with four points
abbrev made : ℕ → ℕ → ℕ → ℕ → ℕ → Event
made at p q r s = record {
  cycle = at;
  line = 1;
  act = act.Table 1 (pos 4) (negsuc 1) (whole p ∷ whole q ∷ whole r ∷ whole s ∷ []);
}

-- one instrument over two cycles, and table 1, which is live
abbrev with_table : Statements → List Event → Composition
with_table body events = record (piece_of_two no_code body no_code events 2) {
  tables = record { number = 1; size = 4; frozen = None; present = false } ∷ [];
}

-- a live table that is made in the first cycle, and again in the second, while a note reads it
abbrev pub table_made_twice : Composition
table_made_twice = with_table sounding_table (made 0 5 5 5 5 ∷ note 1 0 2 (pos 0) ∷ made 1 9 9 9 9 ∷ [])

-- tablew 9, 2, 1; a1 table 2, 1; out a1, of a table 5, 6, 7, 8
abbrev storing_and_sounding : Statements
storing_and_sounding =
    first (call 3 rate.Init [] op.Tablew (value (lit 9) ∷ value (lit 2) ∷ value (lit 1) ∷ []))
    (first (call 4 rate.Audio (Local rate.Audio 0 ∷ []) op.Table (value (lit 2) ∷ value (lit 1) ∷ []))
    (first (call 5 rate.Audio [] op.Out (value (var rate.Audio (Local rate.Audio 0)) ∷ [])) no_stmt))

-- a piece whose note stores into a table as it begins, and plays the value
abbrev pub table_stored_to : Composition
table_stored_to = with_table storing_and_sounding (made 0 5 6 7 8 ∷ note 1 0 2 (pos 0) ∷ [])

-- schedule 2, 0, .5, 7: schedules a note for the present cycle
abbrev asking_now : Statement
asking_now =
    call 3 rate.Init [] op.Schedule
    (value (lit 2) ∷ value (lit 0) ∷ value (number rate.Init (pos 32768)) ∷ value (lit 7) ∷ [])

-- gk1 init 9; schedule 2, 0, .5, 7; a1 oscili 1, 1, 9: table 9 doesn't exist
abbrev pub asking_and_refused : Statements
asking_and_refused =
    first (call 2 rate.Init (Global (res.Gk 0) ∷ []) op.Init (value (lit 9) ∷ []))
    (first asking_now
    (first (call 4 rate.Audio (Local rate.Audio 0 ∷ []) op.Oscili (value (lit 1) ∷ value (lit 1) ∷ value (lit 9) ∷ []))
    no_stmt))

-- a note of the second cycle that schedules another note for this cycle
abbrev pub asked_in_its_cycle : Composition
asked_in_its_cycle = piece_of_two no_code (first asking_now no_stmt) sounding_p4 (note 1 1 1 (pos 0) ∷ []) 3

-- a note that is refused after it has written and scheduled something
abbrev pub refused_late : Composition
refused_late = piece_of_two zeros asking_and_refused telling (note 1 0 2 (pos 0) ∷ []) 2
