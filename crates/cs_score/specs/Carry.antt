-- The fields that an `i` statement writes, and the fields that it carries. A list of rows has the newest
-- first.
use Rattle.std.specs.Prelude.{ℕ, Bool, true, false, List, [], ◌∷◌, ◌&&◌, length, max, map, nat_le, slice_get, unwrap_or}
use Rattle.std.specs.Prelude.{Option, Some, None, Result, Ok, Err, if◌then◌else◌}
use Rattle.std.specs.List.{range_with_len}
use Rattle.cs_base.specs.{Limits.greatest_instrument, declared.fault.ScoreKind.ScoreKind}
use Rattle.cs_base.specs.declared.fault.ScoreKind.TheVariants.{BadNumber, NothingToCarry, NotInProfile}
use Rattle.cs_score.specs.Fields.{is_same_instrument, is_whole, number_of}
use Rattle.cs_score.specs.{declared.field.Signed.Signed, declared.field.Field.Field}
use Rattle.cs_score.specs.declared.field.{Field.TheVariants.Same, InstrumentNumber.InstrumentNumber}
use Rattle.cs_score.specs.{declared.row.StatementLetter.StatementLetter, declared.row.Row.Row}
use Rattle.cs_score.specs.declared.row.StatementLetter.TheVariants as letter

-- one reading after another; the first fault is the result
abbrev pub and_then : {A B E : Type 0} → Result A E → (A → Result B E) → Result B E
and_then (Ok x) f = f x
and_then (Err e) f = Err e

-- an instrument number; a minus sign makes the statement a stop
abbrev pub as_instrument : Signed → Result InstrumentNumber ScoreKind
as_instrument n =
    if is_whole n
    then if nat_le 1 n.size.whole && nat_le n.size.whole greatest_instrument
    then Ok (record { number = n.size.whole; stop = n.minus })
    else Err BadNumber
    else Err NotInProfile

-- p1 as it is written
abbrev pub instrument_of : Field → Result InstrumentNumber ScoreKind
instrument_of f = and_then (number_of NothingToCarry f) as_instrument

-- whether a letter is `i`
abbrev pub is_note_letter : StatementLetter → Bool
is_note_letter letter.Note = true
is_note_letter _ = false

-- whether the newest statement is an `i`
abbrev pub is_note : List Row → Bool
is_note [] = false
is_note (row ∷ above) = is_note_letter row.letter

-- p1 from its written field; if it is omitted or `.`, p1 of the statement before
abbrev pub p1_by : Option Field → Result InstrumentNumber ScoreKind → Result InstrumentNumber ScoreKind
p1_by None before = before
p1_by (Some Same) before = before
p1_by (Some f) before = instrument_of f

-- p1 of an `i` statement: the written one, otherwise p1 of the `i` statement right before
abbrev pub p1 : List Row → Result InstrumentNumber ScoreKind
p1 [] = Err NothingToCarry
p1 (row ∷ above) = p1_by (slice_get row.fields 0) (if is_note above then p1 above else Err NothingToCarry)

-- whether both readings of p1 succeed, with the same instrument and sign
abbrev pub is_same : Result InstrumentNumber ScoreKind → Result InstrumentNumber ScoreKind → Bool
is_same (Ok a) (Ok b) = is_same_instrument a b
is_same _ _ = false

-- whether the newest statement continues the one before, which is an `i` with the same p1
abbrev pub continues : List Row → Bool
continues [] = false
continues (row ∷ above) = is_note above && is_same (p1 (row ∷ above)) (p1 above)

-- a field: the written one, or the previous statement's if it is omitted or `.`
abbrev pub taken : Option Field → Option Field → Option Field
taken None before = before
taken (Some Same) (Some f) = Some f
taken (Some Same) None = Some Same
taken (Some f) before = Some f

-- field k, from 0: the written one; otherwise, if the statement continues the one before, field k of the
-- statement before
abbrev pub field : List Row → ℕ → Option Field
field [] k = None
field (row ∷ above) k = taken (slice_get row.fields k) (if continues (row ∷ above) then field above k else None)

-- the number of fields, carried ones included
abbrev pub count : List Row → ℕ
count [] = 0
count (row ∷ above) = max (length row.fields) (if continues (row ∷ above) then count above else 0)

-- all fields of the newest statement
abbrev pub fields : List Row → List Field
fields rows = map (λ k. unwrap_or (field rows k) Same) (range_with_len 0 (count rows))
