-- Short forms for the statements and refusals of worked examples.
use Rattle.std.specs.Prelude.{◌≡◌, ℕ, ℤ, pos, negsuc, ◌*◌, List, [], ◌∷◌, Result, Err}
use Rattle.cs_base.specs.{Lines.whole_file, declared.fault.ScoreFault.ScoreFault, declared.fault.ScoreKind.ScoreKind}
use Rattle.cs_score.specs.{Statements.score_of, declared.statement.ScoreStmt.ScoreStmt}
use Rattle.cs_score.specs.declared.statement.ScoreWhat.{ScoreWhat}
use Rattle.cs_score.specs.declared.statement.ScoreWhat.TheVariants.{Note, Hold, Stop, Table, Section}

-- the result of reading a score that is a file by itself
abbrev pub meant : List ℕ → Result (List ScoreStmt) ScoreFault
meant bytes = score_of (whole_file bytes)

-- a statement on a line
abbrev pub at_line : ℕ → ScoreWhat → ScoreStmt
at_line line what = record { line = line; what = what }

-- a number of beats in millionths, and an integer in 65,536ths
abbrev pub beats : ℕ → ℕ
beats n = n * 1000000

-- an integer in 65,536ths
abbrev pub whole : ℕ → ℤ
whole n = pos (n * 65536)

-- a note of instrument 1 that starts at an integer beat and lasts one beat, with this p4
abbrev pub note : ℕ → ℕ → ℕ → ScoreStmt
note line at p4 = at_line line (Note 1 (beats at) (beats 1) (whole p4 ∷ []))

-- a note of instrument 1 that starts at an integer beat and lasts one beat, without fields from p4 on
abbrev pub bare_note : ℕ → ℕ → ScoreStmt
bare_note line at = at_line line (Note 1 (beats at) (beats 1) [])

-- a held note of instrument 1, whose p3 is -1
abbrev pub held_note : ℕ → ℕ → ℕ → ScoreStmt
held_note line at p4 = at_line line (Hold 1 (beats at) (negsuc 65535) (whole p4 ∷ []))

-- a stop of instrument 1 at an integer beat
abbrev pub stop : ℕ → ℕ → ScoreStmt
stop line at = at_line line (Stop 1 (beats at))

-- the end of a section
abbrev pub section_end : ℕ → ScoreStmt
section_end line = at_line line Section

-- table 1 at beat 0, with 4 points
abbrev pub table : ℕ → ℤ → List ℤ → ScoreStmt
table line gen args = at_line line (Table 1 0 (pos 4) gen args)

-- a refusal at a line
abbrev pub refused : ℕ → ScoreKind → Result (List ScoreStmt) ScoreFault
refused line kind = Err (record { line = line; kind = kind })

-- each of these lines, as a score by itself, is refused for this kind
abbrev pub AllRefused : ScoreKind → List (List ℕ) → Type 0
AllRefused kind [] = Unit {0}
AllRefused kind (text ∷ texts) = (meant text ≡ refused 1 kind) × AllRefused kind texts
