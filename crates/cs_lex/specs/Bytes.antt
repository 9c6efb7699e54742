-- The bytes that an orchestra may contain.
use Rattle.std.specs.Prelude.{ℕ, Bool, false, List, [], ◌∷◌, ◌&&◌, ◌||◌, ◌==◌, not, codes}
use Rattle.std.specs.{Char.is_ascii_digit, Char.is_ascii_alphabetic, Int.is_in_range, List.list_any, Str.byte}
use Rattle.cs_base.specs.Lines.{is_feed, tab, carriage_return, line_feed}

-- whether a byte is a quotation mark
abbrev pub is_quote : ℕ → Bool
is_quote b = b == byte "\""

-- whether a byte is a letter or `_`
abbrev pub is_letter : ℕ → Bool
is_letter b = is_ascii_alphabetic b || b == byte "_"

-- whether a byte is a letter, a digit or `_`
abbrev pub is_word_byte : ℕ → Bool
is_word_byte b = is_letter b || is_ascii_digit b

-- whether a byte is allowed outside comments: tab, line feed, carriage return, and from space to `~`
abbrev pub is_allowed : ℕ → Bool
is_allowed b = is_in_range 32 126 b || b == tab || b == line_feed || b == carriage_return

-- any byte except a quotation mark and a line feed
abbrev pub is_quotable : ℕ → Bool
is_quotable b = not (is_quote b) && not (is_feed b)

-- whether a byte is allowed between two quotation marks
abbrev pub is_text_byte : ℕ → Bool
is_text_byte b = is_allowed b && is_quotable b

-- a sign of one byte
abbrev pub is_short_sign : ℕ → Bool
is_short_sign b = list_any (λ sign. b == sign) (codes "(),=+-*/%<>?:[]{}#$^!~&|")

-- a sign of two bytes: += <= >= == != && ||
abbrev pub is_long_sign : ℕ → ℕ → Bool
is_long_sign a b =
    (b == byte "=" && list_any (λ sign. a == sign) (codes "+<>=!"))
    || (a == b && list_any (λ sign. a == sign) (codes "&|"))

-- the signs, including those that the profile lacks
abbrev pub is_sign : List ℕ → Bool
is_sign [] = false
is_sign (a ∷ []) = is_short_sign a
is_sign (a ∷ b ∷ []) = is_long_sign a b
is_sign (a ∷ b ∷ c ∷ rest) = false
