-- How the reader finds the first piece of a text, rule by rule. Rows and Lexed define the tokens of a text
-- without this.
use Rattle.std.specs.Prelude.{ℕ, Bool, List, [], ◌∷◌, ◌+◌, ◌&&◌, ◌==◌, not, length, take, drop, slice_index, nat_lt}
use Rattle.std.specs.Prelude.{codes, Option, Some, None, Result, Ok, Err, if◌then◌else◌}
use Rattle.std.specs.{List.list_all, List.prefix_len, Char.is_ascii_digit, Str.byte}
use Rattle.cs_base.specs.{Decimals.decimal_of, Decimals.raw_of_decimal, Numbers.clamp, declared.fault.OrcKind.OrcKind}
use Rattle.cs_base.specs.{declared.decimal.Decimal.Decimal, Comments.begins_comment, Comments.is_open_comment}
use Rattle.cs_base.specs.{Comments.comment_len, Lines.is_blank, Lines.is_feed, Lines.begins, Lines.begins_with}
use Rattle.cs_lex.specs.{declared.token.Mark.Mark, declared.token.Token.Token, Lexed.is_newline_mark}
use Rattle.cs_lex.specs.{declared.front.Front.Front, declared.class.Class.Class}
use Rattle.cs_lex.specs.Bytes.{is_quote, is_letter, is_word_byte, is_allowed, is_quotable, is_short_sign, is_long_sign}
use Rattle.cs_base.specs.declared.fault.OrcKind.TheVariants as orc
use Rattle.cs_lex.specs.declared.token.Mark.TheVariants as mark
use Rattle.cs_lex.specs.declared.class.Class.TheVariants as class

-- the class of a byte: the kind of piece that it may begin
abbrev pub class_of : ℕ → Class
class_of b =
    if is_letter b then class.Letter else (if is_ascii_digit b then class.Digit else (
    if is_blank b then class.Blank else (if is_feed b then class.LineFeed else (
    if is_quote b then class.Quote else (if b == byte "." then class.Point else (
    if b == byte "/" then class.Slash else (if b == byte ";" then class.Semicolon else (
    if b == byte "\\" then class.Backslash else (if is_short_sign b then class.Sign else (
    if is_allowed b then class.Stray else class.Bad))))))))))

-- the length of the longest prefix of a text whose bytes satisfy p
abbrev pub run : (ℕ → Bool) → List ℕ → ℕ
run p text = prefix_len p text

-- a gap of n bytes
abbrev pub gap : ℕ → Result Front OrcKind
gap n = Ok (record { mark = None; len = n })

-- a token of n bytes with this mark
abbrev pub token : Mark → ℕ → Result Front OrcKind
token m n = Ok (record { mark = Some m; len = n })

-- a comment, or the fault that it isn't closed
abbrev pub comment_front : List ℕ → Result Front OrcKind
comment_front text = if is_open_comment text then Err orc.OpenComment else gap (comment_len text)

-- a sign: two bytes if they form a sign, and otherwise one
abbrev pub sign_front : List ℕ → Result Front OrcKind
sign_front text =
    if nat_lt 1 (length text) && is_long_sign (slice_index text 0) (slice_index text 1) then token mark.Sign 2
    else token mark.Sign 1

-- a text that begins with `/`: a comment or a sign
abbrev pub slash_front : List ℕ → Result Front OrcKind
slash_front text = if begins_comment text then comment_front text else sign_front text

-- the joined line whose `\` is just before `rest`, or the fault that no line feed follows the blanks
abbrev pub joined_front : List ℕ → Result Front OrcKind
joined_front rest =
    if begins is_feed (drop (run is_blank rest) rest) then gap (run is_blank rest + 2) else Err orc.BadToken

-- a word: all letters, digits and `_` at the start of the text
abbrev pub word_front : List ℕ → Result Front OrcKind
word_front text = token mark.Word (run is_word_byte text)

-- the length of a quoted text, up to the closing quotation mark or the end of the line
abbrev pub quoted_len : List ℕ → ℕ
quoted_len rest = run is_quotable rest

-- the quoted text whose opening quotation mark is just before `rest`, or its fault
abbrev pub text_front : List ℕ → Result Front OrcKind
text_front rest =
    if not (list_all is_allowed (take (quoted_len rest) rest)) then Err orc.BadByte
    else (if begins is_quote (drop (quoted_len rest) rest) then token mark.Text (quoted_len rest + 2)
    else Err orc.BadToken)

-- the length of a decimal: digits, a point, and the digits after it
abbrev pub numeral_len : List ℕ → ℕ
numeral_len text =
    let whole = run is_ascii_digit text in
    if begins (λ b. b == byte ".") (drop whole text) then whole + 1 + run is_ascii_digit (drop (whole + 1) text)
    else whole

-- a number of n bytes, or a fault if there is no decimal
abbrev pub number_of : Option Decimal → ℕ → Result Front OrcKind
number_of None n = Err orc.BadNumber
number_of (Some d) n = token (mark.Number (clamp (raw_of_decimal d))) n

-- a number, or the fault that a letter follows it or that it is too great
abbrev pub number_front : List ℕ → Result Front OrcKind
number_front text =
    if begins is_letter (drop (numeral_len text) text) then Err orc.BadNumber
    else number_of (decimal_of (take (numeral_len text) text)) (numeral_len text)

-- a text that begins with a digit: `0dbfs` or a number
abbrev pub digit_front : List ℕ → Result Front OrcKind
digit_front text =
    if begins_with (codes "0dbfs") text && not (begins is_word_byte (drop 5 text)) then token mark.Word 5
    else number_front text

-- a text that begins with a point: a number, or a fault if no digit follows
abbrev pub point_front : List ℕ → Result Front OrcKind
point_front text =
    if begins is_ascii_digit (drop 1 text) then number_front text else Err orc.BadToken

-- the first piece of a text whose first byte has this class
abbrev pub by_class : Class → List ℕ → Result Front OrcKind
by_class class.Letter text = word_front text
by_class class.Digit text = digit_front text
by_class class.Blank text = gap 1
by_class class.LineFeed text = token mark.NewLine 1
by_class class.Quote text = text_front (drop 1 text)
by_class class.Point text = point_front text
by_class class.Slash text = slash_front text
by_class class.Semicolon text = comment_front text
by_class class.Backslash text = joined_front (drop 1 text)
by_class class.Sign text = sign_front text
by_class class.Stray text = Err orc.BadToken
by_class class.Bad text = Err orc.BadByte

-- the first piece of a text, or the fault at its start
abbrev pub front_of : List ℕ → Result Front OrcKind
front_of text = by_class (class_of (slice_index text 0)) text

-- the token of a piece, if it isn't a gap
abbrev pub given : Option Mark → ℕ → ℕ → ℕ → List Token
given None at to line = []
given (Some m) at to line = record { mark = m; from = at; to = to; line = line } ∷ []

-- whether the last token is a line feed, or there is none, after a piece with this mark
abbrev pub fed_by : Bool → Option Mark → Bool
fed_by fed None = fed
fed_by fed (Some m) = is_newline_mark m
