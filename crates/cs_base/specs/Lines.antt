-- Blanks and line feeds, which are part of no token and of no field; prefixes of a text, and its lines. Line
-- numbers count from 1 and are those in the file, even if the text is only a part of the file.
use Rattle.std.specs.Prelude.{ℕ, Bool, false, List, [], ◌∷◌, ◌+◌, ◌||◌, ◌==◌, not, nat_eq, count_by, length, min}
use Rattle.std.specs.{Prelude.if◌then◌else◌, List.prefix_len, List.starts_with}

-- the byte of a space
abbrev pub space : ℕ
space = 32

-- the byte of a tab
abbrev pub tab : ℕ
tab = 9

-- the byte of a carriage return
abbrev pub carriage_return : ℕ
carriage_return = 13

-- the byte of a line feed
abbrev pub line_feed : ℕ
line_feed = 10

-- whether a byte is a space, a tab or a carriage return
abbrev pub is_blank : ℕ → Bool
is_blank b = b == space || b == tab || b == carriage_return

-- whether a byte is a line feed
abbrev pub is_feed : ℕ → Bool
is_feed b = b == line_feed

-- any byte except a line feed
abbrev pub is_line_byte : ℕ → Bool
is_line_byte b = not (is_feed b)

-- whether a text has a first byte, and the byte satisfies p
abbrev pub begins : (ℕ → Bool) → List ℕ → Bool
begins p [] = false
begins p (b ∷ rest) = p b

-- whether a text begins with `front`
abbrev pub begins_with : List ℕ → List ℕ → Bool
begins_with front text = starts_with nat_eq text front

-- a text within a file, with the line of the file on which it begins
pub record Excerpt : Type 0 where
  pub first_line : ℕ
  pub bytes : List ℕ

-- the text `bytes`, which begins on line `first` of its file
abbrev pub excerpt : ℕ → List ℕ → Excerpt
excerpt first bytes = record { first_line = first; bytes = bytes }

-- a text that is an entire file
abbrev pub whole_file : List ℕ → Excerpt
whole_file bytes = excerpt 1 bytes

-- the line number after the text `before`, which begins on line `first`: its line feeds are added to `first`
abbrev pub line_after : ℕ → List ℕ → ℕ
line_after first before = count_by is_feed before + first

-- a line: its number, the index of its first byte, and its bytes without the line feed
pub record Line : Type 0 where
  pub number : ℕ
  pub at : ℕ
  pub bytes : List ℕ

-- a line with this number, the index of its first byte, and its bytes
abbrev pub line : ℕ → ℕ → List ℕ → Line
line number at bytes = record { number = number; at = at; bytes = bytes }

-- the lines with one more byte at the start of the first
abbrev pub with_byte : ℕ → ℕ → ℕ → List Line → List Line
with_byte number at b [] = line number at (b ∷ []) ∷ []
with_byte number at b (l ∷ ls) = line number at (b ∷ l.bytes) ∷ ls

-- the lines of a text whose first line has this number and whose first byte has the index `at`: each line
-- feed ends a line
abbrev pub lines_from : ℕ → ℕ → List ℕ → List Line
lines_from number at [] = []
lines_from number at (b ∷ rest) =
    if is_feed b then line number at [] ∷ lines_from (number + 1) (at + 1) rest
    else with_byte number at b (lines_from number (at + 1) rest)

-- the lines of a text that begins on line `first`
abbrev pub lines_of : ℕ → List ℕ → List Line
lines_of first text = lines_from first 0 text

-- the length in bytes of a text's first line, including its line feed
abbrev pub next_len : List ℕ → ℕ
next_len text = min (prefix_len is_line_byte text + 1) (length text)
