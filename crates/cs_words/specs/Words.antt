-- The meanings of the words.
use Rattle.std.specs.Prelude.{ℕ, Bool, List, [], ◌∷◌, ◌+◌, ◌-◌, ◌*◌, ◌&&◌, ◌==◌, codes, Option, Some, None}
use Rattle.std.specs.{Prelude.if◌then◌else◌, Prelude.nat_le, Str.bytes_eq, Str.byte, List.list_any, Char.is_ascii_digit}
use Rattle.cs_words.specs.{Catalogue.catalogued, Names.is_name, Tables.looked_up, declared.word.Word.Word}
use Rattle.cs_words.specs.declared.catalogue.Opcode.{Opcode}
use Rattle.cs_words.specs.declared.word.Keyword.TheVariants as key
use Rattle.cs_words.specs.declared.word.HeadName.TheVariants as head
use Rattle.cs_words.specs.declared.word.Func.TheVariants as func
use Rattle.cs_words.specs.declared.word.Word.TheVariants as word

-- the keywords, which can't name a variable or an opcode; the header's settings; the functions that an
-- expression may call
abbrev pub words : List (List ℕ × Word)
words =
    (codes "instr", word.Keyword key.Instr) ∷
    (codes "endin", word.Keyword key.Endin) ∷
    (codes "if", word.Keyword key.If) ∷
    (codes "then", word.Keyword key.Then) ∷
    (codes "elseif", word.Keyword key.Elseif) ∷
    (codes "else", word.Keyword key.Else) ∷
    (codes "endif", word.Keyword key.Endif) ∷
    (codes "opcode", word.Keyword key.Opcode) ∷
    (codes "endop", word.Keyword key.Endop) ∷
    (codes "xin", word.Keyword key.Xin) ∷
    (codes "xout", word.Keyword key.Xout) ∷
    (codes "sr", word.Header head.Sr) ∷
    (codes "kr", word.Header head.Kr) ∷
    (codes "ksmps", word.Header head.Ksmps) ∷
    (codes "nchnls", word.Header head.Nchnls) ∷
    (codes "0dbfs", word.Header head.Dbfs) ∷
    (codes "int", word.Func func.Int) ∷
    (codes "frac", word.Func func.Frac) ∷
    (codes "abs", word.Func func.Abs) ∷
    (codes "floor", word.Func func.Floor) ∷
    (codes "cpspch", word.Func func.Cpspch) ∷
    (codes "i", word.Func func.I) ∷
    []

-- the words of Csound that the profile lacks
abbrev pub foreign_words : List (List ℕ)
foreign_words =
    codes "goto" ∷ codes "igoto" ∷ codes "kgoto" ∷ codes "cigoto" ∷ codes "ckgoto" ∷ codes "cngoto" ∷ codes "timout" ∷
    codes "reinit" ∷ codes "rigoto" ∷ codes "rireturn" ∷ codes "while" ∷ codes "until" ∷ codes "do" ∷ codes "od" ∷
    codes "fi" ∷ codes "ithen" ∷ codes "kthen" ∷ codes "turnoff2" ∷ codes "event" ∷ codes "ftgen" ∷ codes "tone" ∷
    codes "atone" ∷ codes "reson" ∷ codes "areson" ∷ codes "comb" ∷ codes "alpass" ∷ codes "expseg" ∷ codes "expon" ∷
    codes "rand" ∷ codes "randi" ∷ codes "randh" ∷ codes "ampdb" ∷ codes "ampdbfs" ∷ codes "dbamp" ∷ codes "sqrt" ∷
    codes "exp" ∷ codes "log" ∷ codes "sin" ∷ codes "cos" ∷ codes "tan" ∷ codes "pow" ∷
    []

-- the meaning of a word in the list of keywords, settings and functions
unfoldable pub listed_word : List ℕ → Option Word
listed_word bytes = looked_up words bytes

-- whether a word is in the list of words that the profile lacks
unfoldable pub is_foreign : List ℕ → Bool
is_foreign bytes = list_any (bytes_eq bytes) foreign_words

-- whether a byte is a digit except 0
abbrev pub is_leading : ℕ → Bool
is_leading b = nat_le (byte "1") b && nat_le b (byte "9")

-- the value of a digit
abbrev pub digit : ℕ → ℕ
digit b = b - byte "0"

-- the number of a field: `p`, followed by a number from 1 to 100 without leading zeros
unfoldable pub field_of : List ℕ → Option ℕ
field_of [] = None
field_of (p ∷ []) = None
field_of (p ∷ b ∷ []) = if p == byte "p" && is_leading b then Some (digit b) else None
field_of (p ∷ b ∷ c ∷ []) =
    if p == byte "p" && is_leading b && is_ascii_digit c then Some (digit b * 10 + digit c) else None
field_of (p ∷ b ∷ c ∷ d ∷ []) = if bytes_eq (p ∷ b ∷ c ∷ d ∷ []) (codes "p100") then Some 100 else None
field_of (p ∷ b ∷ c ∷ d ∷ e ∷ rest) = None

-- a field if there is a number, and otherwise a name or any other word
abbrev pub field_or : Option ℕ → List ℕ → Word
field_or (Some k) bytes = word.Field k
field_or None bytes = if is_name bytes then word.Name else word.Other

-- the meaning of a word that is neither in the list nor in the catalogue: foreign, a field, a name, or any
-- other
abbrev pub plain_word : List ℕ → Word
plain_word bytes = if is_foreign bytes then word.Foreign else field_or (field_of bytes) bytes

-- the entry of the list if there is one, then the opcode if there is one, and otherwise `left`
abbrev pub first_of : Option Word → Option Opcode → Word → Word
first_of (Some listed) o left = listed
first_of None (Some o) left = word.Opcode o
first_of None None left = left

-- the meaning of a word
unfoldable pub word_of : List ℕ → Word
word_of bytes = first_of (listed_word bytes) (catalogued bytes) (plain_word bytes)
