-- Arguments whose reading is worked out by hand.
use Rattle.std.specs.Prelude.{false, List, [], ◌∷◌, codes}
use Rattle.cs_base.specs.declared.width.SampleWidth.TheVariants as width
use Rattle.cs_arguments.specs.Reading.{Asked, AskedPiece, Text, two_files}

-- a piece without options and flags
abbrev pub piece_alone : AskedPiece → Asked
piece_alone piece = record {
  workers = 1;
  sound_file = codes "test.wav";
  width = width.TwoBytes;
  silent = false;
  turns = false;
  pool = false;
  piece = piece;
}

-- the files `a` and `b`
abbrev pub a_and_b : AskedPiece
a_and_b = two_files (codes "a") (codes "b")

-- arguments that end in the names `a` and `b`
abbrev pub a_b : List Text
a_b = codes "a" ∷ codes "b" ∷ []

-- a number out of range, or no number
abbrev pub no_numbers : List (List Text)
no_numbers =
    (codes "-j" ∷ codes "0" ∷ a_b)
    ∷ (codes "-j" ∷ codes "33" ∷ a_b)
    ∷ (codes "-j" ∷ codes "4.0" ∷ a_b)
    ∷ (codes "--demo" ∷ codes "0" ∷ [])
    ∷ (codes "--demo" ∷ codes "10001" ∷ [])
    ∷ []

-- an option twice
abbrev pub twice : List (List Text)
twice = (codes "-j2" ∷ codes "-j3" ∷ a_b) ∷ (codes "-nn" ∷ a_b) ∷ []

-- an option without its value
abbrev pub without_value : List (List Text)
without_value =
    (codes "-o" ∷ codes "-n" ∷ a_b)
    ∷ (codes "-o" ∷ codes "--" ∷ a_b)
    ∷ (codes "a" ∷ codes "b" ∷ codes "-o" ∷ [])
    ∷ []

-- an empty name
abbrev pub empty_names : List (List Text)
empty_names = (codes "-o=" ∷ a_b) ∷ (codes "-o" ∷ [] ∷ a_b) ∷ ([] ∷ codes "b" ∷ []) ∷ []

-- names that don't fit
abbrev pub wrong_names : List (List Text)
wrong_names =
    []
    ∷ (codes "a" ∷ [])
    ∷ (codes "a" ∷ codes "b" ∷ codes "c" ∷ [])
    ∷ (codes "--demo" ∷ codes "5" ∷ codes "a" ∷ [])
    ∷ (codes "x.CSD" ∷ [])
    ∷ []

-- a value for a flag, which takes none
abbrev pub unwanted_values : List (List Text)
unwanted_values = (codes "--turns=1" ∷ a_b) ∷ (codes "-n=" ∷ a_b) ∷ []

-- no such option
abbrev pub no_options : List (List Text)
no_options =
    (codes "-x" ∷ a_b)
    ∷ (codes "--turn" ∷ a_b)
    ∷ (codes "--demo5" ∷ [])
    ∷ (codes "-h" ∷ [])
    ∷ (codes "--help" ∷ [])
    ∷ (codes "--version" ∷ [])
    ∷ []
