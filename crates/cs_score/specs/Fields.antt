-- The meaning of a field of a line, which doesn't depend on its place.
use Rattle.std.specs.Prelude.{ℕ, ℤ, pos, neg_ℤ, Bool, true, false, List, ◌&&◌, ◌||◌, ◌==◌, not, length, slice_index}
use Rattle.std.specs.Prelude.{drop, codes, nat_lt, Option, Some, None, Result, Ok, Err, if◌then◌else◌}
use Rattle.std.specs.{List.list_any, Str.byte, Option.option_map}
use Rattle.cs_base.specs.Decimals.{decimal_of, raw_of_decimal, millionths_of}
use Rattle.cs_base.specs.{Lines.begins, Lines.begins_with, Numbers.clamp, declared.decimal.Decimal.Decimal}
use Rattle.cs_base.specs.declared.fault.ScoreKind.{ScoreKind}
use Rattle.cs_base.specs.declared.fault.ScoreKind.TheVariants.{BadNumber, NotInProfile}
use Rattle.cs_score.specs.declared.field.InstrumentNumber.{InstrumentNumber}
use Rattle.cs_score.specs.{declared.field.Signed.Signed, declared.field.Field.Field}
use Rattle.cs_score.specs.declared.field.Field.TheVariants.{Number, Same, After, Ahead, Foreign, Unreadable}

-- a byte that begins a form outside the profile: one of `< > ! [ { " ( ) ~ $ @ n p`
abbrev pub is_foreign : ℕ → Bool
is_foreign b = b == byte "\"" || list_any (λ sign. b == sign) (codes "<>![{()~$@np")

-- a decimal with a sign, if the text is a decimal
abbrev pub signed : Bool → List ℕ → Option Signed
signed minus text = option_map (λ (d : Decimal). record { minus = minus; size = d }) (decimal_of text)

-- the number that a word writes: a decimal with `-`, with `+`, or without a sign
abbrev pub signed_of : List ℕ → Option Signed
signed_of word =
    if begins (λ b. b == byte "-") word then signed true (drop 1 word)
    else if begins (λ b. b == byte "+") word then signed false (drop 1 word)
    else signed false word

-- a number, or `Unreadable` if the word isn't a number
abbrev pub number_field : Option Signed → Field
number_field (Some n) = Number n
number_field None = Unreadable

-- `^+x`, or `Foreign` if x isn't a decimal
abbrev pub ahead_field : Option Decimal → Field
ahead_field (Some x) = Ahead x
ahead_field None = Foreign

-- `^+x` with a decimal x; every other word that begins with `^` is outside the profile
abbrev pub caret_field : List ℕ → Field
caret_field word = if begins_with (codes "^+") word then ahead_field (decimal_of (drop 2 word)) else Foreign

-- whether a word is this single byte
abbrev pub is_only : ℕ → List ℕ → Bool
is_only sign word = length word == 1 && slice_index word 0 == sign

-- the meaning of a word
abbrev pub field_of : List ℕ → Field
field_of word =
    if is_only (byte ".") word then Same
    else if is_only (byte "+") word then After
    else if begins (λ b. b == byte "^") word then caret_field word
    else if begins is_foreign word then Foreign
    else number_field (signed_of word)

-- the number of a field at a place that doesn't allow `+`; a `.` that has nothing to carry is refused as
-- `dot`
abbrev pub number_of : ScoreKind → Field → Result Signed ScoreKind
number_of dot (Number n) = Ok n
number_of dot Same = Err dot
number_of dot After = Err BadNumber
number_of dot (Ahead x) = Err BadNumber
number_of dot Foreign = Err NotInProfile
number_of dot Unreadable = Err BadNumber

-- an absolute value with its sign
abbrev pub with_sign : Bool → ℤ → ℤ
with_sign minus z = if minus then neg_ℤ z else z

-- the value in 65,536ths: the decimal is rounded, then the sign is applied
abbrev pub raw_of : Signed → ℤ
raw_of n = with_sign n.minus (clamp (raw_of_decimal n.size))

-- the integer part, with the sign
abbrev pub whole_of : Signed → ℤ
whole_of n = with_sign n.minus (pos n.size.whole)

-- the absolute value in millionths: digits after the sixth are dropped
abbrev pub size_of : Signed → ℕ
size_of n = millionths_of n.size

-- whether all nine digits after the decimal point are 0
abbrev pub is_whole : Signed → Bool
is_whole n = n.size.billionths == 0

-- whether the number is below 0, by all nine decimal digits
abbrev pub is_below_zero : Signed → Bool
is_below_zero n = n.minus && (nat_lt 0 n.size.whole || nat_lt 0 n.size.billionths)

-- whether the number is below 0 as a time, which has only six decimal digits
abbrev pub is_negative_time : Signed → Bool
is_negative_time n = n.minus && nat_lt 0 (size_of n)

-- whether both have the same instrument number, and both or neither are stops
abbrev pub is_same_instrument : InstrumentNumber → InstrumentNumber → Bool
is_same_instrument a b = a.number == b.number && (if a.stop then b.stop else not b.stop)
