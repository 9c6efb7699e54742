-- The first letters of a variable's name.
use Rattle.std.specs.Prelude.{ℕ, Bool, false, List, [], ◌∷◌, ◌&&◌, ◌||◌, ◌==◌, if◌then◌else◌}
use Rattle.std.specs.Str.{byte}
use Rattle.cs_base.specs.declared.resource.Rate.{Rate}
use Rattle.cs_base.specs.declared.resource.Rate.TheVariants as rate

-- whether a byte is a letter for a rate
abbrev pub is_rate_letter : ℕ → Bool
is_rate_letter b = b == byte "i" || b == byte "k" || b == byte "a"

-- the rate of a letter: a-rate for any letter except i and k
abbrev pub letter_rate : ℕ → Rate
letter_rate b = if b == byte "i" then rate.Init else (if b == byte "k" then rate.Control else rate.Audio)

-- whether a word begins with i, k, a, gi, gk or ga
abbrev pub is_name : List ℕ → Bool
is_name [] = false
is_name (b ∷ []) = is_rate_letter b
is_name (b ∷ c ∷ rest) = is_rate_letter b || (b == byte "g" && is_rate_letter c)

-- whether a name begins with g, so that all notes share the variable
abbrev pub is_global : List ℕ → Bool
is_global [] = false
is_global (b ∷ rest) = b == byte "g"

-- the rate of a variable: given by the first letter of its name, or by the second if all notes share it
abbrev pub name_rate : List ℕ → Rate
name_rate [] = rate.Audio
name_rate (b ∷ []) = letter_rate b
name_rate (b ∷ c ∷ rest) = letter_rate (if b == byte "g" then c else b)
