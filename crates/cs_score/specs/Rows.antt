-- The statements as they are written on the lines of a text: letter, line number and fields.
use Rattle.std.specs.Prelude.{ℕ, Bool, List, [], ◌∷◌, ◌++◌, ◌+◌, ◌==◌, not, map, take, drop, if◌then◌else◌}
use Rattle.std.specs.{Char.is_ascii_alphabetic, List.prefix_len, Str.byte}
use Rattle.cs_base.specs.Lines.{Excerpt, Line, begins, is_blank, line_after, lines_of}
use Rattle.cs_score.specs.Fields.{field_of}
use Rattle.cs_score.specs.declared.row.StatementLetter.{StatementLetter}
use Rattle.cs_score.specs.{declared.row.Row.Row, Plain.plain_of}
use Rattle.cs_score.specs.declared.row.StatementLetter.TheVariants as letter

-- a byte added at the beginning of the first word
abbrev pub with_first : ℕ → List (List ℕ) → List (List ℕ)
with_first b [] = (b ∷ []) ∷ []
with_first b (w ∷ ws) = (b ∷ w) ∷ ws

-- whether a byte belongs to a word
abbrev pub is_word_byte : ℕ → Bool
is_word_byte b = not (is_blank b)

-- the words of a line, which are separated by blanks
abbrev pub words : List ℕ → List (List ℕ)
words [] = []
words (b ∷ rest) =
    if is_blank b then words rest
    else if begins is_word_byte rest then with_first b (words rest)
    else (b ∷ []) ∷ words rest

-- the kind of a statement that begins with this byte
abbrev pub letter_of : ℕ → StatementLetter
letter_of b =
    if b == byte "i" then letter.Note else if b == byte "f" then letter.Table
    else if b == byte "t" then letter.Tempo else if b == byte "b" then letter.Base
    else if b == byte "s" then letter.Section else if b == byte "e" then letter.End
    else if is_ascii_alphabetic b then letter.Other else letter.Stray

-- a statement: its first byte and the words after it; the first word may follow without a blank
abbrev pub row_at : ℕ → List ℕ → List Row
row_at line [] = []
row_at line (b ∷ rest) = record { line = line; letter = letter_of b; fields = map field_of (words rest) } ∷ []

-- the statement of a line, if it has one; its line is the line of its letter in the text with comments
abbrev pub row_of : Excerpt → Line → List Row
row_of text l =
    let indent = prefix_len is_blank l.bytes in
    row_at (line_after text.first_line (take (l.at + indent) text.bytes)) (drop indent l.bytes)

-- the statements of lines, as they are written
abbrev pub rows_in : Excerpt → List Line → List Row
rows_in text [] = []
rows_in text (l ∷ ls) = row_of text l ++ rows_in text ls

-- the statements of a text, as they are written
abbrev pub rows_of : Excerpt → List Row
rows_of text = rows_in text (lines_of text.first_line (plain_of text.bytes))
