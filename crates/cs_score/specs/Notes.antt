-- An `i` statement: its fields in order, then their number, and the note that it describes.
use Rattle.std.specs.Prelude.{ℕ, ◌+◌, ℤ, Bool, false, List, [], ◌∷◌, length, drop, nat_lt, slice_get, Option, Some}
use Rattle.std.specs.Prelude.{None, Result, Ok, Err, if◌then◌else◌}
use Rattle.cs_base.specs.{Decimals.millionths_of, Limits.greatest_field, declared.fault.ScoreKind.ScoreKind}
use Rattle.cs_base.specs.declared.fault.ScoreKind.TheVariants.{BadStatement, BadNumber, MissingField, NothingToCarry}
use Rattle.cs_base.specs.declared.fault.ScoreKind.TheVariants.{NegativeTime}
use Rattle.cs_score.specs.Fields.{raw_of, is_negative_time, number_of, size_of}
use Rattle.cs_score.specs.declared.field.InstrumentNumber.{InstrumentNumber}
use Rattle.cs_score.specs.{declared.field.Signed.Signed, declared.field.Field.Field}
use Rattle.cs_score.specs.declared.field.Field.TheVariants.{Number, After, Ahead}
use Rattle.cs_score.specs.{declared.note.Times.Times, declared.row.Row.Row, Ranges.beats_end}
use Rattle.cs_score.specs.declared.statement.ScoreWhat.{ScoreWhat}
use Rattle.cs_score.specs.declared.statement.ScoreWhat.TheVariants.{Note, Hold, Stop}
use Rattle.cs_score.specs.Carry.{and_then, p1, continues, field, fields}

-- a time in millionths, at least 0
abbrev pub as_time : Signed → Result ℕ ScoreKind
as_time n = if is_negative_time n then Err NegativeTime else Ok (size_of n)

-- a mark in p2: this distance after the start of the previous note, if the statement continues it
abbrev pub moved : Bool → ℕ → ℕ → Result ℕ ScoreKind
moved continuing before distance = if continuing then Ok (before + distance) else Err NothingToCarry

-- the value of p2, if the previous note starts at `before` and `+` means `gap` later; 0 if p2 is omitted
abbrev pub p2_by : Bool → ℕ → ℕ → Option Field → Result ℕ ScoreKind
p2_by continuing before gap None = Ok 0
p2_by continuing before gap (Some After) = moved continuing before gap
p2_by continuing before gap (Some (Ahead x)) = moved continuing before (millionths_of x)
p2_by continuing before gap (Some f) = and_then (number_of NothingToCarry f) as_time

-- the number that was read, or 0 after a fault
abbrev pub ok_or_zero : Result ℕ ScoreKind → ℕ
ok_or_zero (Ok n) = n
ok_or_zero (Err _) = 0

-- the time from the start of a note to the start of a next note with `+`: the absolute value of p3, or 0
-- after a stop
abbrev pub gap_by : Result InstrumentNumber ScoreKind → Option Field → ℕ
gap_by (Ok instr) (Some (Number n)) = if instr.stop then 0 else size_of n
gap_by _ _ = 0

-- the time from the start of the newest note to the start of a next note with `+`
abbrev pub gap : List Row → ℕ
gap rows = gap_by (p1 rows) (field rows 2)

-- p2 of the newest statement in millionths, before the base is added; a mark depends on p2 and p3 of the
-- statement before
abbrev pub p2 : List Row → Result ℕ ScoreKind
p2 [] = Ok 0
p2 (row ∷ above) = p2_by (continues (row ∷ above)) (ok_or_zero (p2 above)) (gap above) (field (row ∷ above) 1)

-- the start of a note, with the base added
abbrev pub start_of : ℕ → ℕ → Result ℕ ScoreKind
start_of base p2 = if nat_lt (p2 + base) beats_end then Ok (p2 + base) else Err BadNumber

-- the number 0
abbrev pub zero : Signed
zero = record { minus = false; size = record { whole = 0; billionths = 0 } }

-- p3: a note with a length ends before the last allowed beat; p3 of a stop is only a number
abbrev pub as_length : InstrumentNumber → ℕ → Signed → Result Signed ScoreKind
as_length instr at n =
    if instr.stop then Ok n
    else if n.minus then Ok n
    else if nat_lt (at + size_of n) beats_end then Ok n else Err BadNumber

-- p3; it is 0 if it is omitted
abbrev pub p3_by : InstrumentNumber → ℕ → Option Field → Result Signed ScoreKind
p3_by instr at None = Ok zero
p3_by instr at (Some f) = and_then (number_of NothingToCarry f) (as_length instr at)

-- the raw values of fields that must be numbers; a `.` that has nothing to carry is refused as `dot`
abbrev pub values_of : ScoreKind → List Field → Result (List ℤ) ScoreKind
values_of dot [] = Ok []
values_of dot (f ∷ fs) = and_then (number_of dot f) (λ n. and_then (values_of dot fs) (λ zs. Ok (raw_of n ∷ zs)))

-- the smallest number of fields: p1 and p2 for a stop, and p3 too for a note
abbrev pub fewest : InstrumentNumber → ℕ
fewest instr = if instr.stop then 2 else 3

-- the check of the number of fields, which comes last
abbrev pub counted : InstrumentNumber → ℕ → ScoreWhat → Result ScoreWhat ScoreKind
counted instr n what =
    if nat_lt n (fewest instr) then Err MissingField
    else if nat_lt greatest_field n then Err BadStatement
    else Ok what

-- the statement: a stop if p1 is negative, a held note if p3 is negative, a note otherwise
abbrev pub note_by : InstrumentNumber → ℕ → Signed → List ℤ → ScoreWhat
note_by instr at p3 more =
    if instr.stop then Stop instr.number at
    else if is_negative_time p3 then Hold instr.number at (raw_of p3) more
    else Note instr.number at (size_of p3) more

-- the start of a note, and its p3
abbrev pub times_of : ℕ → InstrumentNumber → ℕ → Option Field → Result Times ScoreKind
times_of base instr p2 p3 =
    and_then (start_of base p2) (λ at. and_then (p3_by instr at p3) (λ p3. Ok (record { at = at; p3 = p3 })))

-- the fields from p4 on, then the check of the number of fields
abbrev pub valued_note : InstrumentNumber → Times → List Field → Result ScoreWhat ScoreKind
valued_note instr times fields =
    and_then (values_of NothingToCarry (drop 3 fields)) (λ more.
    counted instr (length fields) (note_by instr times.at times.p3 more))

-- the fields after p1 in order, then the check of their number
abbrev pub note_of : ℕ → InstrumentNumber → Result ℕ ScoreKind → List Field → Result ScoreWhat ScoreKind
note_of base instr p2 fields =
    and_then p2 (λ p2. and_then (times_of base instr p2 (slice_get fields 2)) (λ times.
    valued_note instr times fields))

-- the newest statement, which is an `i`, with a base
abbrev pub note : ℕ → List Row → Result ScoreWhat ScoreKind
note base rows = and_then (p1 rows) (λ instr. note_of base instr (p2 rows) (fields rows))
