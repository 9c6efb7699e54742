-- The results of operators and functions on numbers, in 65,536ths.
use Rattle.std.specs.Prelude.{ℕ, ℤ, pos, Bool, not, ◌&&◌, ◌||◌, ◌+◌, ◌*◌, ◌^◌, ◌%◌, ◌/◌, ◌*ℤ◌, ◌+ℤ◌, List, [], ◌∷◌}
use Rattle.std.specs.Prelude.{slice_index_or, unsigned_abs, if◌then◌else◌, int_lt}
use Rattle.std.specs.{Int.int_max, Int.int_min, Int.int_rem_euclid, Ordering.int_eq}
use Rattle.cs_base.specs.Numbers.{one, floor_div, sum_of, difference_of, product_of, quotient_of, remainder_of}
use Rattle.cs_base.specs.Numbers.{floor_of, int_of, frac_of, abs_of}
use Rattle.cs_words.specs.{declared.sign.BinOp.BinOp, declared.word.Func.Func}
use Rattle.cs_words.specs.declared.sign.BinOp.TheVariants as op
use Rattle.cs_words.specs.declared.word.Func.TheVariants as func

-- A condition is a value: 0 doesn't hold, any other value does. A comparison returns 1 or 0.
abbrev pub holds : ℤ → Bool
holds z = not (int_eq z (pos 0))

-- the number 1 for true, 0 for false
abbrev pub truth : Bool → ℤ
truth b = if b then one else pos 0

-- the negative of a value, clamped
abbrev pub negated : ℤ → ℤ
negated z = difference_of (pos 0) z

-- the result of an operator on two values
abbrev pub combined : BinOp → ℤ → ℤ → ℤ
combined op.Or x y = truth (holds x || holds y)
combined op.And x y = truth (holds x && holds y)
combined op.Less x y = truth (int_lt x y)
combined op.Greater x y = truth (int_lt y x)
combined op.LessEqual x y = truth (not (int_lt y x))
combined op.GreaterEqual x y = truth (not (int_lt x y))
combined op.Equal x y = truth (int_eq x y)
combined op.NotEqual x y = truth (not (int_eq x y))
combined op.Add x y = sum_of x y
combined op.Sub x y = difference_of x y
combined op.Mul x y = product_of x y
combined op.Div x y = quotient_of x y
combined op.Rem x y = remainder_of x y

-- the frequencies of the twelve semitones from middle C upwards, in thousandths of a hertz
abbrev pub semitones : List ℕ
semitones =
    261626 ∷ 277183 ∷ 293665 ∷ 311127 ∷ 329628 ∷ 349228 ∷ 369994 ∷ 391995 ∷ 415305 ∷ 440000 ∷ 466164 ∷ 493883 ∷ []

-- the semitone of an octave and pitch class: its hundredths, rounded to an integer
abbrev pub pitch_class : ℤ → ℕ
pitch_class x = unsigned_abs (floor_div ((int_rem_euclid x one *ℤ pos 100) +ℤ pos 32768) one)

-- its octave, clamped to 0 to 20; twelve or more semitones count as one octave more
abbrev pub octave : ℤ → ℕ → ℕ
octave x class = unsigned_abs (int_max (pos 0) (int_min (floor_div x one +ℤ pos (class / 12)) (pos 20)))

-- The frequency in hertz of an octave and pitch class, rounded down once. Octave 8 begins at middle C, and
-- each further octave doubles the frequency.
abbrev pub cpspch_of : ℤ → ℤ
cpspch_of x = floor_div (pos (slice_index_or semitones (pitch_class x % 12) 0 * 2 ^ (octave x (pitch_class x) + 8)))
    (pos 1000)

-- the result of a function of a value; `i` reads its variable unchanged
abbrev pub applied : Func → ℤ → ℤ
applied func.Int x = int_of x
applied func.Frac x = frac_of x
applied func.Abs x = abs_of x
applied func.Floor x = floor_of x
applied func.Cpspch x = cpspch_of x
applied func.I x = x
