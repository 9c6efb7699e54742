-- The state that the code stores about the rows so far.
use Rattle.std.specs.Prelude.{◌≡◌, ◌+◌, ◌<◌, ℕ, Bool, false, List, [], ◌∷◌, Option, Some, None, Result, Ok, Err}
use Rattle.std.specs.Prelude.{slice_get, IsSome, if◌then◌else◌}
use Rattle.cs_base.specs.{declared.fault.ScoreKind.ScoreKind, declared.fault.ScoreKind.TheVariants.NothingToCarry}
use Rattle.cs_score.specs.{declared.field.Signed.Signed, declared.field.Field.Field, Fields.size_of}
use Rattle.cs_score.specs.declared.field.{Field.TheVariants.Same, InstrumentNumber.InstrumentNumber}
use Rattle.cs_score.specs.{declared.last.LastNote.LastNote, declared.last.NoteRead.NoteRead}
use Rattle.cs_score.specs.declared.statement.ScoreWhat.{ScoreWhat}
use Rattle.cs_score.specs.{Carry.and_then, Carry.is_same, Carry.p1_by, Notes.gap_by, Notes.note_of}
use Rattle.cs_score.specs.{Notes.p2_by, Ranges.beats_end, Ranges.IsTableNumber}
use Rattle.cs_score.specs.declared.statement_fault.StatementFault.{StatementFault}
use Rattle.cs_score.specs.declared.statement.ScoreWhat.TheVariants.{Table, Extend}
use Rattle.cs_score.specs.declared.statement_fault.StatementFault.TheVariants as fault

-- a result of the code is the result of a definition, or out of memory
abbrev pub Answers : {A : Type 0} → Result A StatementFault → Result A ScoreKind → Type 0
Answers (Ok x) meant = meant ≡ Ok x
Answers (Err (fault.Kind kind)) meant = meant ≡ Err kind
Answers (Err fault.OutOfMemory) meant = Unit {0}

-- p1 of the `i` statement right before, if there is one
abbrev pub p1_before : Option InstrumentNumber → Result InstrumentNumber ScoreKind
p1_before (Some instr) = Ok instr
p1_before None = Err NothingToCarry

-- a note with a length ends before the last allowed beat
abbrev pub Ends : InstrumentNumber → ℕ → Signed → Type 0
Ends instr at n = instr.stop ≡ false → n.minus ≡ false → at + size_of n < beats_end

-- the ranges of the values of an `f`, which don't depend on other statements
abbrev pub HasWrittenRange : ScoreWhat → Type 0
HasWrittenRange (Table number at size gen args) = IsTableNumber number × (at < beats_end)
HasWrittenRange (Extend at) = at < beats_end
HasWrittenRange _ = ⊥

-- a written field, or the previous statement's if it is `.`
abbrev pub filled_one : Field → Field → Field
filled_one Same before = before
filled_one written before = written

-- the written fields, with the omitted ones filled in from the statement before
abbrev pub filled : List Field → List Field → List Field
filled [] before = before
filled (f ∷ fs) [] = f ∷ fs
filled (f ∷ fs) (g ∷ gs) = filled_one f g ∷ filled fs gs

-- the fields of a statement, filled in if it continues the one before
abbrev pub completed : Bool → List Field → List Field → List Field
completed continuing written before = if continuing then filled written before else written

-- p1 of an `i` statement, from its written fields and the stored state of the one before
abbrev pub instr_read : LastNote → List Field → Result InstrumentNumber ScoreKind
instr_read last written = p1_by (slice_get written 0) (p1_before last.instr)

-- whether a statement with these written fields continues the stored one
abbrev pub continuing : LastNote → List Field → Bool
continuing last written = is_same (instr_read last written) (p1_before last.instr)

-- the fields of a statement, filled in from the stored one if it continues that
abbrev pub fields_read : LastNote → List Field → List Field
fields_read last written = completed (continuing last written) written last.fields

-- p2 of a statement, given the stored one
abbrev pub p2_read : LastNote → List Field → Result ℕ ScoreKind
p2_read last written = p2_by (continuing last written) last.p2 last.gap (slice_get (fields_read last written) 1)

-- an `i` statement with this p1, given the stored one
abbrev pub note_with : ℕ → LastNote → List Field → InstrumentNumber → Result ScoreWhat ScoreKind
note_with base last written instr = note_of base instr (p2_read last written) (fields_read last written)

-- the statement that an `i` describes, given the stored state
abbrev pub note_read : ℕ → LastNote → List Field → Result ScoreWhat ScoreKind
note_read base last written = and_then (instr_read last written) (note_with base last written)

-- the stored state of an `i` statement with these fields, for the next one
pub record IsLast (instr : InstrumentNumber) (p2 : ℕ) (fields : List Field) (last : LastNote) : Type 0 where
  pub is_instr : last.instr ≡ Some instr
  pub is_p2 : last.p2 ≡ p2
  pub is_gap : last.gap ≡ gap_by (Ok instr) (slice_get fields 2)
  pub is_fields : last.fields ≡ fields

-- the stored state after an `i` statement with these written fields
pub record IsKept (last : LastNote) (written : List Field) (next : LastNote) : Type 0 where
  pub is_instr : instr_read last written ≡ p1_before next.instr
  pub stands : IsSome next.instr
  pub is_p2 : p2_read last written ≡ Ok next.p2
  pub is_gap : next.gap ≡ gap_by (p1_before next.instr) (slice_get next.fields 2)
  pub is_fields : next.fields ≡ fields_read last written

-- the result of reading a note is the result of its definition, or out of memory
abbrev pub NoteAnswers : Result NoteRead StatementFault → Result ScoreWhat ScoreKind → Type 0
NoteAnswers (Ok r) meant = meant ≡ Ok r.what
NoteAnswers (Err (fault.Kind kind)) meant = meant ≡ Err kind
NoteAnswers (Err fault.OutOfMemory) meant = Unit {0}
