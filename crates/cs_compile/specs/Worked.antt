-- Two small texts, whose sound is worked out by hand.
use Rattle.std.specs.Prelude.{ℕ, ℤ, pos, ◌*◌, List, codes}

-- the integer n as a raw value, as in p-fields
abbrev pub whole : ℕ → ℤ
whole n = pos (n * 65536)

-- eight frames a second and one in each control cycle; instrument 1 plays its fourth field
abbrev pub fourth_field : List ℕ
fourth_field = codes "sr = 8\nksmps = 1\ninstr 1\na1 = p4\nout a1\nendin\n"

-- a note of instrument 1 that lasts a quarter of a second, with 100 as its fourth field
abbrev pub note_of_100 : List ℕ
note_of_100 = codes "i1 0 .25 100\n"

-- an orchestra whose second line has a byte that begins no token
abbrev pub stray_byte : List ℕ
stray_byte = codes "instr 1\na1 = @x\nendin\n"
