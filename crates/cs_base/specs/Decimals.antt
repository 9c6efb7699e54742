-- Decimals in a text: their form, their parts, and their values.
use Rattle.std.specs.Prelude.{ℕ, ℤ, pos, List, Bool, length, take, ◌+◌, ◌-◌, ◌*◌, ◌/◌, ◌^◌, ◌==◌, ◌&&◌, nat_le, nat_lt}
use Rattle.std.specs.{Prelude.Option, Prelude.Some, Prelude.None, Prelude.if◌then◌else◌, List.before_first}
use Rattle.std.specs.{List.after_first, List.list_all, Char.is_ascii_digit, Str.byte, Str.Parse.digits_value}
use Rattle.cs_base.specs.declared.decimal.Decimal.{Decimal}

-- whether a byte is a point
abbrev pub is_point : ℕ → Bool
is_point b = b == byte "."

-- the bytes before the first point of a text, or the entire text if it has no point
abbrev pub before_point : List ℕ → List ℕ
before_point text = before_first is_point text

-- the bytes after the first point, or nothing if there is no point
abbrev pub after_point : List ℕ → List ℕ
after_point text = after_first is_point text

-- whether a text has the form of a decimal: digits with at most one point before, among or after them, and at
-- least one digit
abbrev pub is_numeral : List ℕ → Bool
is_numeral text =
    nat_lt 0 (length (before_point text) + length (after_point text)) && list_all is_ascii_digit (before_point text)
    && list_all is_ascii_digit (after_point text)

-- the integer part of a decimal
abbrev pub whole_part : List ℕ → ℕ
whole_part text = digits_value 10 (before_point text)

-- the first nine digits after the point, as a number of billionths; later digits are dropped
abbrev pub billionths_part : List ℕ → ℕ
billionths_part text =
    digits_value 10 (take 9 (after_point text)) * 10 ^ (9 - length (after_point text))

-- the greatest integer part that a decimal may have
abbrev pub greatest_whole : ℕ
greatest_whole = 2147483647

-- the decimal that a text denotes; None if the text does not have the form of a decimal, or if its integer
-- part is too great
abbrev pub decimal_of : List ℕ → Option Decimal
decimal_of text =
    if is_numeral text && nat_le (whole_part text) greatest_whole
    then Some (record { whole = whole_part text; billionths = billionths_part text })
    else None

-- the value of a decimal in 65,536ths, rounded down
abbrev pub raw_of_decimal : Decimal → ℤ
raw_of_decimal d = pos (d.whole * 65536 + d.billionths * 65536 / 10 ^ 9)

-- the value of a decimal in millionths, rounded down
abbrev pub millionths_of : Decimal → ℕ
millionths_of d = d.whole * 1000000 + d.billionths / 1000
