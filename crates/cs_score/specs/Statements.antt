-- The statements of a score, line after line, or its first fault.
use Rattle.std.specs.Prelude.{ℕ, ℤ, pos, Bool, true, false, List, [], ◌∷◌, ◌++◌, ◌&&◌, ◌==◌, not, length, drop, nat_le}
use Rattle.std.specs.Prelude.{nat_lt, slice_get, Option, Some, None, Result, Ok, Err, if◌then◌else◌}
use Rattle.std.specs.{Option.option_or, Ordering.int_eq}
use Rattle.cs_base.specs.{Limits.greatest_table, Lines.Excerpt, declared.fault.ScoreKind.ScoreKind}
use Rattle.cs_base.specs.declared.fault.ScoreFault.{ScoreFault}
use Rattle.cs_base.specs.declared.fault.ScoreKind.TheVariants.{BadStatement, BadNumber, MissingField, BadTempo, BadGen}
use Rattle.cs_base.specs.declared.fault.ScoreKind.TheVariants.{BadTableSize, TableResized, NotInProfile}
use Rattle.cs_score.specs.Fields.{number_of, whole_of, size_of, is_whole, is_below_zero, is_negative_time}
use Rattle.cs_score.specs.{declared.field.Signed.Signed, declared.field.Field.Field}
use Rattle.cs_gen.specs.{declared.check.GenFault.GenFault, Faults.table_fault}
use Rattle.cs_score.specs.{declared.row.StatementLetter.StatementLetter, declared.row.Row.Row}
use Rattle.cs_score.specs.{declared.statement.TempoPoint.TempoPoint, declared.statement.ScoreWhat.ScoreWhat}
use Rattle.cs_score.specs.{declared.statement.ScoreStmt.ScoreStmt, Carry.and_then, Notes.as_time}
use Rattle.cs_score.specs.{Notes.values_of, Notes.note, Notes.ok_or_zero, Ranges.beats_end, Rows.rows_of}
use Rattle.cs_score.specs.declared.statement.ScoreWhat.TheVariants.{Table, Extend, Tempo, Section}
use Rattle.cs_gen.specs.declared.check.GenFault.TheVariants as gen
use Rattle.cs_score.specs.declared.row.StatementLetter.TheVariants as letter

-- a time of `f` or `b` in millionths, below 10,000,000 beats
abbrev pub in_beats : ℕ → Result ℕ ScoreKind
in_beats at = if nat_lt at beats_end then Ok at else Err BadNumber

-- the time that a field of `f` or `b` writes
abbrev pub time_of : Field → Result ℕ ScoreKind
time_of f = and_then (number_of BadNumber f) (λ n. and_then (as_time n) in_beats)

-- a missing field reads as 0; the later check of the number of fields reports it
abbrev pub time_or_zero : Option Field → Result ℕ ScoreKind
time_or_zero None = Ok 0
time_or_zero (Some f) = time_of f

-- the time in field k, counted from 0
abbrev pub time_at : List Field → ℕ → Result ℕ ScoreKind
time_at fs k = time_or_zero (slice_get fs k)

-- an integer: a size or a GEN
abbrev pub as_whole : Signed → Result ℤ ScoreKind
as_whole n = if is_whole n then Ok (whole_of n) else Err BadNumber

-- an integer field; a missing one reads as 0
abbrev pub whole_or_zero : Option Field → Result ℤ ScoreKind
whole_or_zero None = Ok (pos 0)
whole_or_zero (Some f) = and_then (number_of BadNumber f) as_whole

-- the integer in field k, counted from 0
abbrev pub whole_at : List Field → ℕ → Result ℤ ScoreKind
whole_at fs k = whole_or_zero (slice_get fs k)

-- the number of a table, or 0
abbrev pub as_table_number : Signed → Result ℕ ScoreKind
as_table_number n =
    if is_below_zero n then Err NotInProfile
    else if is_whole n && nat_le n.size.whole greatest_table then Ok n.size.whole
    else Err BadNumber

-- the number of a table in the first field; a missing field reads as 0
abbrev pub table_number_at : List Field → Result ℕ ScoreKind
table_number_at [] = Ok 0
table_number_at (f ∷ fs) = and_then (number_of BadNumber f) as_table_number

-- the check that a statement has at least n fields
abbrev pub at_least : ℕ → List Field → ScoreWhat → Result ScoreWhat ScoreKind
at_least n fs what = if nat_lt (length fs) n then Err MissingField else Ok what

-- `f 0 time`: further fields aren't checked
abbrev pub extend_of : List Field → Result ScoreWhat ScoreKind
extend_of fs = and_then (time_at fs 1) (λ at. at_least 2 fs (Extend at))

-- the fields of a table in order, then the check of their number
abbrev pub table_by : ℕ → List Field → Result ScoreWhat ScoreKind
table_by number fs =
    and_then (time_at fs 1) (λ at. and_then (whole_at fs 2) (λ size. and_then (whole_at fs 3) (λ gen.
    and_then (values_of BadNumber (drop 4 fs)) (λ args. at_least 4 fs (Table number at size gen args)))))

-- an `f` from its fields, without the statements before it
abbrev pub written_table : List Field → Result ScoreWhat ScoreKind
written_table fs = and_then (table_number_at fs) (λ number. if number == 0 then extend_of fs else table_by number fs)

-- the size of table `number` in a statement that was read, if it is such a table
abbrev pub size_for : ℕ → Result ScoreWhat ScoreKind → Option ℤ
size_for number (Ok (Table m at size gen args)) = if m == number then Some size else None
size_for number _ = None

-- the size of table `number` in this statement, if the statement is such a table
abbrev pub size_by : ℕ → List Field → StatementLetter → Option ℤ
size_by number fs letter.Table = size_for number (written_table fs)
size_by number fs _ = None

-- the size of table `number` in a row, if the row is such a table
abbrev pub size_in : ℕ → Row → Option ℤ
size_in number row = size_by number row.fields row.letter

-- the size of the first `f` of a table number, in rows with the newest first
abbrev pub first_size : List Row → ℕ → Option ℤ
first_size [] number = None
first_size (row ∷ above) number = option_or (first_size above number) (size_in number row)

-- whether the first size of a table's number exists and differs from this size
abbrev pub is_other_size : Option ℤ → ℤ → Bool
is_other_size None size = false
is_other_size (Some first) size = not (int_eq first size)

-- the rules of a table in their order: its size, the first size of its number, its GEN
abbrev pub table_refusal : Option GenFault → Bool → Option ScoreKind
table_refusal (Some gen.Size) resized = Some BadTableSize
table_refusal (Some gen.Unknown) resized = Some (if resized then TableResized else BadGen)
table_refusal (Some gen.NegativeLength) resized = Some (if resized then TableResized else BadGen)
table_refusal None resized = if resized then Some TableResized else None

-- the statement, or the fault for which it is refused
abbrev pub unless : Option ScoreKind → ScoreWhat → Result ScoreWhat ScoreKind
unless None what = Ok what
unless (Some kind) what = Err kind

-- why a table is refused, given the first size of each number
abbrev pub refusal_of : (ℕ → Option ℤ) → ScoreWhat → Option ScoreKind
refusal_of first (Table number at size gen args) =
    table_refusal (table_fault size gen args) (is_other_size (first number) size)
refusal_of first _ = None

-- an `f` after the rows `above`
abbrev pub table : List Row → List Field → Result ScoreWhat ScoreKind
table above fs = and_then (written_table fs) (λ what. unless (refusal_of (first_size above) what) what)

-- whether a beat may come after `last`: the first beat is 0, and beats never fall
abbrev pub follows : Option ℕ → ℕ → Bool
follows None beat = beat == 0
follows (Some last) beat = nat_le last beat

-- a beat of a tempo
abbrev pub as_beat : Option ℕ → Signed → Result ℕ ScoreKind
as_beat last n =
    if is_negative_time n then Err BadTempo
    else if nat_lt (size_of n) beats_end
    then if follows last (size_of n) then Ok (size_of n) else Err BadTempo
    else Err BadNumber

-- a tempo in millionths: from 1 to 60,000 beats per minute
abbrev pub as_tempo : Signed → Result ℕ ScoreKind
as_tempo n =
    if n.minus then Err BadTempo
    else if nat_le 1000000 (size_of n) && nat_le (size_of n) 60000000000 then Ok (size_of n) else Err BadTempo

-- the pairs of a beat and a tempo, after a pair with the beat `last`
abbrev pub points_of : Option ℕ → List Field → Result (List TempoPoint) ScoreKind
points_of last [] = Ok []
points_of last (f ∷ []) = and_then (number_of BadNumber f) (λ n. and_then (as_beat last n) (λ _. Err MissingField))
points_of last (f ∷ g ∷ fs) =
    and_then (number_of BadNumber f) (λ n. and_then (as_beat last n) (λ beat.
    and_then (number_of BadNumber g) (λ m. and_then (as_tempo m) (λ tempo.
    and_then (points_of (Some beat) fs) (λ points. Ok (record { beat = beat; tempo = tempo } ∷ points))))))

-- the tempo of a `t` statement
abbrev pub tempo_of : List Field → Result ScoreWhat ScoreKind
tempo_of fs =
    if length fs == 0 then Err MissingField else and_then (points_of None fs) (λ points. Ok (Tempo points))

-- the base that a `b` sets; its further fields must be numbers and have no effect
abbrev pub base_by : List Field → Result ℕ ScoreKind
base_by [] = Err MissingField
base_by (f ∷ fs) = and_then (time_of f) (λ base. and_then (values_of BadNumber fs) (λ _. Ok base))

-- the base after a row: a `b` sets it, an `s` resets it to 0
abbrev pub base_after : List Field → ℕ → StatementLetter → ℕ
base_after fs before letter.Base = ok_or_zero (base_by fs)
base_after fs before letter.Section = 0
base_after fs before _ = before

-- the base after these rows, with the newest first; it is 0 at the start of a section
abbrev pub base_of : List Row → ℕ
base_of [] = 0
base_of (row ∷ above) = base_after row.fields (base_of above) row.letter

-- one statement as a list
abbrev pub one : Result ScoreWhat ScoreKind → Result (List ScoreWhat) ScoreKind
one r = and_then r (λ what. Ok (what ∷ []))

-- an `e`, which has no fields and is no statement
abbrev pub ended : List Field → Result (List ScoreWhat) ScoreKind
ended [] = Ok []
ended (f ∷ fs) = Err NotInProfile

-- the content of a row, at most one statement, if `as_note` and `as_table` are its readings as a note and as
-- a table
abbrev pub asked_of : Result ScoreWhat ScoreKind → Result ScoreWhat ScoreKind → List Field → StatementLetter
    → Result (List ScoreWhat) ScoreKind
asked_of as_note as_table fields letter.Note = one as_note
asked_of as_note as_table fields letter.Table = one as_table
asked_of as_note as_table fields letter.Tempo = one (tempo_of fields)
asked_of as_note as_table fields letter.Base = and_then (base_by fields) (λ _. Ok [])
asked_of as_note as_table fields letter.Section = Ok (Section ∷ [])
asked_of as_note as_table fields letter.End = ended fields
asked_of as_note as_table fields letter.Other = Err NotInProfile
asked_of as_note as_table fields letter.Stray = Err BadStatement

-- the content of a row after the rows `above`
abbrev pub asked_by : List Row → Row → StatementLetter → Result (List ScoreWhat) ScoreKind
asked_by above row = asked_of (note (base_of above) (row ∷ above)) (table above row.fields) row.fields

-- the content of a row after the rows `above`
abbrev pub asked : List Row → Row → Result (List ScoreWhat) ScoreKind
asked above row = asked_by above row row.letter

-- statements with the line of their row
abbrev pub at_line : ℕ → List ScoreWhat → List ScoreStmt
at_line line [] = []
at_line line (what ∷ more) = record { line = line; what = what } ∷ at_line line more

-- a row's statement with its line, or its fault with its line
abbrev pub stated : ℕ → Result (List ScoreWhat) ScoreKind → Result (List ScoreStmt) ScoreFault
stated line (Ok asked) = Ok (at_line line asked)
stated line (Err kind) = Err (record { line = line; kind = kind })

-- the statements of rows that follow the rows `above`
abbrev pub statements_of : List Row → List Row → Result (List ScoreStmt) ScoreFault
statements_of above [] = Ok []
statements_of above (row ∷ rows) =
    and_then (stated row.line (asked above row)) (λ these.
    and_then (statements_of (row ∷ above) rows) (λ more. Ok (these ++ more)))

-- whether a letter is `e`
abbrev pub is_end : StatementLetter → Bool
is_end letter.End = true
is_end _ = false

-- the rows up to and including the first `e`
abbrev pub up_to_end : List Row → List Row
up_to_end [] = []
up_to_end (row ∷ rows) = row ∷ (if is_end row.letter then [] else up_to_end rows)

-- the statements of a score's text, or its first fault; lines are counted in the file that contains the text
unfoldable pub score_of : Excerpt → Result (List ScoreStmt) ScoreFault
score_of text = statements_of [] (up_to_end (rows_of text))
