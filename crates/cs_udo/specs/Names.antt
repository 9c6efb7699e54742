-- The names of variables in an expanded orchestra.
use Rattle.std.specs.Prelude.{ℕ, zero, suc, Bool, true, false, List, [], ◌∷◌, ◌++◌, ◌+◌, map, if◌then◌else◌}
use Rattle.std.specs.Str.{byte}
use Rattle.cs_base.specs.declared.resource.Rate.{Rate}
use Rattle.cs_base.specs.declared.resource.Rate.TheVariants as rate
use Rattle.cs_words.specs.Names.{name_rate, is_global}

-- the letter of a rate
abbrev pub rate_letter : Rate → ℕ
rate_letter rate.Init = byte "i"
rate_letter rate.Control = byte "k"
rate_letter rate.Audio = byte "a"

-- binary digits, the lowest first, incremented by one
abbrev pub one_more : List Bool → List Bool
one_more [] = true ∷ []
one_more (false ∷ digits) = true ∷ digits
one_more (true ∷ digits) = false ∷ one_more digits

-- the binary digits of a number, the lowest first
abbrev pub binary : ℕ → List Bool
binary zero = []
binary (suc n) = one_more (binary n)

-- a binary digit as a byte
abbrev pub digit : Bool → ℕ
digit true = byte "1"
digit false = byte "0"

-- the digits of a number as they appear in a name
abbrev pub numeral : ℕ → List ℕ
numeral n = map digit (binary n)

-- A local variable in a frame: the letter of its rate, a full stop, the frame's number, a full stop, and its
-- own name.
abbrev pub fresh : ℕ → List ℕ → List ℕ
fresh frame x = rate_letter (name_rate x) ∷ byte "." ∷ (numeral frame ++ byte "." ∷ x)

-- a variable in a frame; a global variable keeps its name
abbrev pub in_frame : ℕ → List ℕ → List ℕ
in_frame frame x = if is_global x then x else fresh frame x

-- a variable of an instrument keeps its name
abbrev pub as_it_is : List ℕ → List ℕ
as_it_is x = x

-- The slot of a result in a frame, a variable: the letter of its rate, a full stop, and its index among the
-- results.
abbrev pub slot : ℕ → Rate → List ℕ
slot place r = rate_letter r ∷ byte "." ∷ numeral place

-- the slots of results with these rates, from index `place` on
abbrev pub slots : ℕ → List Rate → List (List ℕ)
slots place [] = []
slots place (r ∷ rs) = slot place r ∷ slots (place + 1) rs
