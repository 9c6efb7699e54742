-- The lexical rules: which bytes form a token or a gap, given what follows them, and which faults can occur
-- at the start of the remaining text.
use Rattle.std.specs.Prelude.{ℕ, Bool, true, false, List, [], ◌∷◌, ◌++◌, ◌≡◌, ◌≢◌, ◌<◌, ◌⊎◌, ◌&&◌, ◌||◌, ◌==◌, not}
use Rattle.std.specs.Prelude.{length, codes, Option, Some, None, ℤ}
use Rattle.std.specs.{Option.IsSomeAnd, List.list_all, Char.is_ascii_digit, Str.byte as char}
use Rattle.cs_base.specs.Decimals.{is_numeral, whole_part, greatest_whole, decimal_of, raw_of_decimal}
use Rattle.cs_base.specs.{declared.fault.OrcKind.OrcKind, Lines.is_blank, Lines.is_feed, Lines.begins}
use Rattle.cs_lex.specs.{declared.token.Mark.Mark, Bytes.is_short_sign}
use Rattle.cs_base.specs.Comments.{begins_comment, is_open_comment, comment_len}
use Rattle.cs_lex.specs.Bytes.{is_quote, is_letter, is_word_byte, is_allowed, is_quotable, is_text_byte, is_sign}
use Rattle.cs_base.specs.declared.fault.OrcKind.TheVariants as orc
use Rattle.cs_lex.specs.declared.token.Mark.TheVariants as mark

-- a span that has the form, while no longer prefix of the text from its first byte has it
pub record Longest (form : List ℕ → Bool) (span after : List ℕ) : Type 0 where
  pub fits : form span ≡ true
  pub stops : (more rest : List ℕ) → more ≢ [] → after ≡ more ++ rest → form (span ++ more) ≡ false

-- a comment that is closed: its length is `comment_len` of the text that begins with it
pub record IsComment (span after : List ℕ) : Type 0 where
  pub begun : begins_comment (span ++ after) ≡ true
  pub ended : is_open_comment (span ++ after) ≡ false
  pub len : length span ≡ comment_len (span ++ after)

-- a `\`, followed by blanks and a line feed
pub record IsJoin (span : List ℕ) : Type 0 where
  pub blanks : List ℕ
  pub whole : span ≡ codes "\\" ++ (blanks ++ codes "\n")
  pub blank : list_all is_blank blanks ≡ true

-- a letter or `_`, followed by letters, digits and `_`
abbrev pub is_word : List ℕ → Bool
is_word span = begins is_letter span && list_all is_word_byte span

-- a text begins with `0dbfs`, and no letter, digit or `_` follows it
pub record IsFullScale (text : List ℕ) : Type 0 where
  pub after : List ℕ
  pub whole : text ≡ codes "0dbfs" ++ after
  pub ends : begins is_word_byte after ≡ false

-- a text begins with this decimal, which is not part of `0dbfs`
pub record IsNumeral (span after : List ℕ) : Type 0 where
  pub longest : Longest is_numeral span after
  pub other : IsFullScale (span ++ after) → ⊥

-- a number: no letter or `_` follows it, and its integer part isn't too great
pub record IsNumber (value : ℤ) (span after : List ℕ) : Type 0 where
  pub numeral : IsNumeral span after
  pub ends : begins is_letter after ≡ false
  pub value_is : IsSomeAnd (decimal_of span) (λ d. value ≡ raw_of_decimal d)

-- a sign that doesn't begin a comment
pub record IsSign (span after : List ℕ) : Type 0 where
  pub longest : Longest is_sign span after
  pub other : begins_comment (span ++ after) ≡ false

-- a quotation mark, bytes of one line, and the next quotation mark
pub record IsText (span : List ℕ) : Type 0 where
  pub body : List ℕ
  pub whole : span ≡ codes "\"" ++ (body ++ codes "\"")
  pub plain : list_all is_text_byte body ≡ true

-- the rules: the mark of a span, given what follows it. `None` is a gap between tokens, and each line feed is
-- a NewLine
abbrev pub Fits : Option Mark → List ℕ → List ℕ → Type 0
Fits None span after =
    ((b : ℕ) × (is_blank b ≡ true) × (span ≡ b ∷ [])) ⊎ IsComment span after ⊎ IsJoin span
Fits (Some mark.Word) span after =
    Longest is_word span after ⊎ ((span ≡ codes "0dbfs") × (begins is_word_byte after ≡ false))
Fits (Some (mark.Number value)) span after = IsNumber value span after
Fits (Some mark.Text) span after = IsText span
Fits (Some mark.Sign) span after = IsSign span after
Fits (Some mark.NewLine) span after = span ≡ codes "\n"
Fits (Some mark.End) span after = ⊥

-- the text begins with a byte that is not allowed
pub record IsBadByte (text : List ℕ) : Type 0 where
  pub byte : ℕ
  pub rest : List ℕ
  pub whole : text ≡ byte ∷ rest
  pub bad : is_allowed byte ≡ false

-- the text begins with a quotation mark, and a byte that is not allowed comes before the next quotation mark,
-- line feed or end
pub record HasBadByte (text : List ℕ) : Type 0 where
  pub body : List ℕ
  pub byte : ℕ
  pub rest : List ℕ
  pub whole : text ≡ codes "\"" ++ (body ++ byte ∷ rest)
  pub within : list_all is_quotable body ≡ true
  pub bad : is_allowed byte ≡ false

-- a quoted text that isn't closed before its line or the entire text ends
pub record IsOpenText (text : List ℕ) : Type 0 where
  pub body : List ℕ
  pub after : List ℕ
  pub whole : text ≡ codes "\"" ++ (body ++ after)
  pub plain : list_all is_text_byte body ≡ true
  pub ends : (after ≡ []) ⊎ (begins is_feed after ≡ true)

-- a `\` that doesn't join lines
pub record IsLoneBackslash (text : List ℕ) : Type 0 where
  pub rest : List ℕ
  pub whole : text ≡ codes "\\" ++ rest
  pub joins_not : (blanks after : List ℕ) → list_all is_blank blanks ≡ true → rest ≢ blanks ++ (codes "\n" ++ after)

-- a byte that begins no token, comment or blank: among the allowed bytes, these are ' and @ and `
abbrev pub is_stray : ℕ → Bool
is_stray b =
    is_allowed b
    && not (is_letter b || is_ascii_digit b || is_blank b || is_feed b || is_quote b || b == char "." || b == char ";"
    || b == char "\\" || is_short_sign b)

-- a stray byte, or a point that no digit follows
pub record IsStray (text : List ℕ) : Type 0 where
  pub byte : ℕ
  pub rest : List ℕ
  pub whole : text ≡ byte ∷ rest
  pub stray : (is_stray byte ≡ true) ⊎ ((byte ≡ char ".") × (begins is_ascii_digit rest ≡ false))

-- a number that is directly followed by a letter or `_`, or whose integer part is too great
pub record IsBadNumber (text : List ℕ) : Type 0 where
  pub span : List ℕ
  pub after : List ℕ
  pub whole : text ≡ span ++ after
  pub numeral : IsNumeral span after
  pub wrong : (begins is_letter after ≡ true) ⊎ (greatest_whole < whole_part span)

-- the faults that can occur at the start of a text
abbrev pub IsFault : List ℕ → OrcKind → Type 0
IsFault text orc.BadByte = IsBadByte text ⊎ HasBadByte text
IsFault text orc.BadToken = IsStray text ⊎ IsLoneBackslash text ⊎ IsOpenText text
IsFault text orc.BadNumber = IsBadNumber text
IsFault text orc.OpenComment = is_open_comment text ≡ true
IsFault text _ = ⊥
