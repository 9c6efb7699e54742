-- The built-in piece: its orchestra, and its score for any number of notes.
use Rattle.std.specs.Prelude.{ℕ, zero, suc, ◌+◌, ◌/◌, ◌%◌, ◌==◌, if◌then◌else◌, List, [], ◌∷◌, ◌++◌, codes, decimal}
use Rattle.std.specs.Prelude.{flat_map}

-- lines, each with its line feed
abbrev pub lines : List (List ℕ) → List ℕ
lines texts = flat_map (λ text. text ++ codes "\n") texts

-- A tone, a tone into the delay, and the delay. All three play the table that the score makes.
abbrev pub orchestra : List ℕ
orchestra = lines (codes "sr = 8000" ∷ codes "ksmps = 16" ∷ codes "nchnls = 1" ∷ codes "ga1 init 0"
    ∷ codes "instr 1" ∷ codes "a1 oscili p4, p5, 1" ∷ codes "out a1" ∷ codes "endin"
    ∷ codes "instr 2" ∷ codes "a1 oscili p4, p5, 1" ∷ codes "ga1 += a1" ∷ codes "endin"
    ∷ codes "instr 90" ∷ codes "a1 delay ga1, .05" ∷ codes "out a1" ∷ codes "ga1 = 0" ∷ codes "endin" ∷ [])

-- every eighth note, from the first one on, goes into the delay
abbrev pub instrument_of : ℕ → ℕ
instrument_of note = if note % 8 == 0 then 2 else 1

-- a note's line: 64 notes begin in each second and last one second
abbrev pub note_line : ℕ → List ℕ
note_line note =
    codes "i" ++ (decimal (instrument_of note) ++ (codes " " ++ (decimal (note / 64) ++ (codes " 1 "
    ++ (decimal (100 + note % 7) ++ (codes " " ++ (decimal (100 + note % 500) ++ codes "\n")))))))

-- the lines of the first notes
abbrev pub note_lines : ℕ → List ℕ
note_lines zero = []
note_lines (suc note) = note_lines note ++ note_line note

-- the number of seconds of the piece
abbrev pub seconds : ℕ → ℕ
seconds notes = (notes + 63) / 64

-- the delay plays from the first second to the last
abbrev pub last_lines : ℕ → List ℕ
last_lines notes = codes "i90 0 " ++ (decimal (seconds notes) ++ codes "\ne\n")

-- the demo's score for this number of notes
abbrev pub score : ℕ → List ℕ
score notes = codes "f1 0 1024 10 1\n" ++ (note_lines notes ++ last_lines notes)
