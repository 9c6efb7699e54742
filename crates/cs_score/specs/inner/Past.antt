-- The state that the code stores about all rows so far, and how one more row changes it.
use Rattle.std.specs.Prelude.{◌≡◌, ℕ, ℤ, Bool, false, List, ◌++◌, Option, Some, None, Result, Ok, Err, nat_eq, true}
use Rattle.std.specs.{Prelude.if◌then◌else◌, HashMap.get, Option.option_or, Option.option_to_list}
use Rattle.cs_base.specs.{declared.fault.ScoreFault.ScoreFault, declared.fault.ScoreKind.ScoreKind}
use Rattle.cs_base.specs.declared.fault.ScoreKind.TheVariants.{NothingToCarry}
use Rattle.cs_score.specs.declared.field.Field.{Field}
use Rattle.cs_score.specs.declared.kept.KeptStatements.{KeptStatements}
use Rattle.cs_score.specs.{declared.last.LastNote.LastNote, declared.past.Past.Past}
use Rattle.cs_score.specs.{declared.row.StatementLetter.StatementLetter, declared.row.Row.Row}
use Rattle.cs_score.specs.{declared.statement.ScoreWhat.ScoreWhat, declared.statement.ScoreStmt.ScoreStmt}
use Rattle.cs_score.specs.{Carry.and_then, Carry.fields, Carry.is_note, Carry.p1, Notes.gap, Notes.p2, Notes.ok_or_zero}
use Rattle.cs_score.specs.{Ranges.HasRange, Statements.unless, Statements.written_table, inner.Counts.Holds}
use Rattle.cs_score.specs.declared.statement_fault.StatementFault.{StatementFault}
use Rattle.cs_score.specs.Statements.{asked_of, at_line, base_after, base_of, first_size, is_end, refusal_of, size_in}
use Rattle.cs_score.specs.inner.State.{IsKept, note_read, p1_before}
use Rattle.cs_score.specs.declared.statement_fault.StatementFault.TheVariants as fault
use Rattle.cs_score.specs.declared.row.StatementLetter.TheVariants as letter

-- an optional result of the code is the definition's list of at most one item
abbrev pub AskedAnswers : Result (Option ScoreWhat) StatementFault → Result (List ScoreWhat) ScoreKind → Type 0
AskedAnswers (Ok what) meant = meant ≡ Ok (option_to_list what)
AskedAnswers (Err (fault.Kind kind)) meant = meant ≡ Err kind
AskedAnswers (Err fault.OutOfMemory) meant = Unit {0}

-- the values of an optional statement are in range
abbrev pub HasRangeOrNothing : Option ScoreWhat → Type 0
HasRangeOrNothing None = Unit {0}
HasRangeOrNothing (Some what) = HasRange what

-- an `f`, given the first size of each table number
abbrev pub table_read : (ℕ → Option ℤ) → List Field → Result ScoreWhat ScoreKind
table_read sizes fs = and_then (written_table fs) (λ what. unless (refusal_of sizes what) what)

-- the content of a row, given the stored state
abbrev pub asked_after : Past → Row → StatementLetter → Result (List ScoreWhat) ScoreKind
asked_after past row =
    asked_of (note_read past.base past.last row.fields) (table_read (get nat_eq past.sizes) row.fields) row.fields

-- only an `i` statement is stored for the next one
abbrev pub LastFollows : LastNote → Row → LastNote → StatementLetter → Type 0
LastFollows last row next letter.Note = IsKept last row.fields next
LastFollows last row next _ = next.instr ≡ None

-- the stored state after one more row
pub record Follows (past : Past) (row : Row) (next : Past) : Type 0 where
  pub base : next.base ≡ base_after row.fields past.base row.letter
  pub sizes : (n : ℕ) → get nat_eq next.sizes n ≡ option_or (get nat_eq past.sizes n) (size_in n row)
  pub last : LastFollows past.last row next.last row.letter

-- the stored state after rows with the newest first
pub record Keeps (above : List Row) (past : Past) : Type 0 where
  pub base : past.base ≡ base_of above
  pub sizes : (n : ℕ) → get nat_eq past.sizes n ≡ first_size above n
  pub instr : p1_before past.last.instr ≡ (if is_note above then p1 above else Err NothingToCarry)
  pub p2 : is_note above ≡ true → past.last.p2 ≡ ok_or_zero (p2 above)
  pub gap : is_note above ≡ true → past.last.gap ≡ gap above
  pub fields : is_note above ≡ true → past.last.fields ≡ fields above

-- one more row was read: its content is appended to the statements, with its line
pub record RowRead (past : Past) (before : KeptStatements) (row : Row) (next : Past) (after : KeptStatements)
    : Type 0 where
  pub these : List ScoreWhat
  pub asked : asked_after past row row.letter ≡ Ok these
  pub grown : (all : List ScoreStmt) → Holds all before → Holds (all ++ at_line row.line these) after
  pub follows : Follows past row next

-- a line was read: either it has no statement, or its statement was added; `ends` is true if that was an `e`
abbrev pub LineTaken : Past → KeptStatements → Option Row → Bool → Past → KeptStatements → Type 0
LineTaken past before None ends next after = (next ≡ past) × (after ≡ before) × (ends ≡ false)
LineTaken past before (Some row) ends next after = RowRead past before row next after × (ends ≡ is_end row.letter)

-- the fault of a line
abbrev pub IsFaultOf : Past → Option Row → ScoreFault → Type 0
IsFaultOf past None f = ⊥
IsFaultOf past (Some row) f = (f.line ≡ row.line) × (asked_after past row row.letter ≡ Err f.kind)
