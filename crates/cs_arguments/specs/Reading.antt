-- What the command-line arguments ask for: the uses of options, flags and names one by one, and then the
-- meaning of all uses together.
use Rattle.std.specs.Prelude.{ℕ, Bool, true, false, not, ◌&&◌, ◌||◌, ◌==◌, if◌then◌else◌, nat_lt, nat_le, nat_eq, List}
use Rattle.std.specs.Prelude.{[], ◌∷◌, ◌++◌, length, codes, find, Option, Some, None, is_some, unwrap_or, option_map}
use Rattle.std.specs.{Prelude.option_and_then, Prelude.bytes_eq, Char.digit_value}
use Rattle.std.specs.List.{list_all, list_any, before_first, after_first, ends_with}
use Rattle.std.specs.Str.Parse.{digits_value, without_leading_plus}
use Rattle.cs_arguments.specs.Ranges.{most_workers, most_demo_notes}
use Rattle.cs_base.specs.declared.width.SampleWidth.{SampleWidth}
use Rattle.cs_base.specs.declared.width.SampleWidth.TheVariants as width

-- the bytes of an argument
abbrev pub Text : Type 0
Text = List ℕ

-- ---- what the arguments ask for

-- the source of the orchestra and the score
pub data AskedPiece : Type 0 where
  two_files : Text → Text → AskedPiece
  one_file : Text → AskedPiece
  demo : ℕ → AskedPiece

-- everything that the arguments ask for
pub record Asked : Type 0 where
  pub workers : ℕ
  pub sound_file : Text
  pub width : SampleWidth
  pub silent : Bool
  pub turns : Bool
  pub pool : Bool
  pub piece : AskedPiece

-- ---- uses

-- One use: of an option by its letter or its long name, or of a name by its position, `ORC` or `SCO`; and its
-- value. A flag has the value `true`.
abbrev pub Use : Type 0
Use = Text × Text

-- what the arguments so far say
pub record Said : Type 0 where
  pub uses : List Use
  -- the option whose value is the next argument
  pub wants : Option Text
  -- `--` was read: all later arguments are names
  pub only_names : Bool

-- nothing was read yet
abbrev pub start : Said
start = record { uses = []; wants = None; only_names = false }

-- whether an option or name was used
abbrev pub has_use : Text → List Use → Bool
has_use key uses = list_any (λ u. bytes_eq u.0 key) uses

-- one more use
abbrev pub used : Text → Text → Said → Said
used key value s = record s { uses = s.uses ++ (key, value) ∷ []; wants = None }

-- the first name names the orchestra or a file with both texts; each later one names the score
abbrev pub named : Text → Said → Said
named word s = used (if has_use (codes "ORC") s.uses then codes "SCO" else codes "ORC") word s

-- ---- options

-- whether a letter is one of some letters
abbrev pub is_among : ℕ → List ℕ → Bool
is_among x letters = list_any (λ y. y == x) letters

-- the flags of one letter
abbrev pub is_flag_letter : ℕ → Bool
is_flag_letter x = is_among x (codes "Wsdn3")

-- the options of one letter
abbrev pub is_value_letter : ℕ → Bool
is_value_letter x = is_among x (codes "jo")

-- the flags with a long name
abbrev pub is_flag_name : Text → Bool
is_flag_name name = bytes_eq (codes "turns") name || bytes_eq (codes "pool") name

-- the option with a long name
abbrev pub is_value_name : Text → Bool
is_value_name name = bytes_eq (codes "demo") name

-- an option's letter with the rest of its argument, which is the value, after an `=` (61) or without one; if
-- the rest is empty, the next argument is the value
abbrev pub valued : Text → Text → Said → Said
valued key [] s = record s { wants = Some key }
valued key (x ∷ rest) s = used key (if x == 61 then rest else x ∷ rest) s

-- the text after one dash: flags, the last of which may be an option with a value
abbrev pub lettered : Text → Said → Option Said
lettered [] s = Some s
lettered (x ∷ rest) s =
    if is_flag_letter x then lettered rest (used (x ∷ []) (codes "true") s)
    else (if is_value_letter x then Some (valued (x ∷ []) rest s) else None)

-- a long name, and its value if an `=` follows it
abbrev pub titled : Text → Option Text → Said → Option Said
titled name None s =
    if is_value_name name then Some (record s { wants = Some name })
    else (if is_flag_name name then Some (used name (codes "true") s) else None)
titled name (Some value) s = if is_value_name name then Some (used name value s) else None

-- the sign `=`
abbrev pub is_equals : ℕ → Bool
is_equals x = x == 61

-- the text after two dashes
abbrev pub title : Text → Said → Option Said
title text s = titled (before_first is_equals text)
    (if list_any is_equals text then Some (after_first is_equals text) else None) s

-- ---- arguments

-- an argument that is no option: the value of an option, or a name
abbrev pub plain : Option Text → Text → Said → Said
plain None word s = named word s
plain (Some key) word s = used key word s

-- an option can't be the value of another option
abbrev pub unless_wanting : Option Text → Option Said → Option Said
unless_wanting None t = t
unless_wanting (Some key) t = None

-- an argument that begins with a dash (45), and the text after the dash
abbrev pub dashed : Text → Text → Said → Option Said
dashed word [] s = Some (plain s.wants word s)
dashed word (x ∷ rest) s = unless_wanting s.wants
    (if x == 45 then (if bytes_eq rest [] then Some (record s { only_names = true }) else title rest s)
    else lettered (x ∷ rest) s)

-- an argument before any `--`
abbrev pub worded : Text → Said → Option Said
worded [] s = Some (plain s.wants [] s)
worded (x ∷ rest) s = if x == 45 then dashed (x ∷ rest) rest s else Some (plain s.wants (x ∷ rest) s)

-- what the arguments say after one more of them
unfoldable pub after : Said → Text → Option Said
after s word = if s.only_names then Some (named word s) else worded word s

-- what all arguments say, or None if one of them is refused
unfoldable pub said : Said → List Text → Option Said
said s [] = Some s
said s (word ∷ rest) = option_and_then (λ t. said t rest) (after s word)

-- ---- the meaning of all uses

-- an optional plus and decimal digits, for a number from 1 to `most`
abbrev pub is_number : ℕ → Text → Bool
is_number most text =
    let digits : Text = without_leading_plus text in
    (nat_lt 0 (length digits) && list_all (λ d. nat_lt (digit_value d) 10) digits)
    && (nat_le 1 (digits_value 10 digits) && nat_le (digits_value 10 digits) most)

-- the number that a text with an optional plus and digits means
abbrev pub number_of : Text → ℕ
number_of text = digits_value 10 (without_leading_plus text)

-- the value is valid for its option; no name is empty
abbrev pub is_value : Use → Bool
is_value u =
    if bytes_eq u.0 (codes "j") then is_number most_workers u.1
    else (if bytes_eq u.0 (codes "demo") then is_number most_demo_notes u.1
    else (if bytes_eq u.0 (codes "o") || (bytes_eq u.0 (codes "ORC") || bytes_eq u.0 (codes "SCO"))
    then nat_lt 0 (length u.1)
    else bytes_eq u.1 (codes "true")))

-- each use has a valid value, and none occurs twice
abbrev pub stands : List Use → List Use → Bool
stands before [] = true
stands before (u ∷ us) = (not (has_use u.0 before) && is_value u) && stands (before ++ u ∷ []) us

-- the value of an option's or name's use
abbrev pub value_of : Text → List Use → Option Text
value_of key uses = option_map (λ u. u.1) (find (λ u. bytes_eq u.0 key) uses)

-- a demo without names, two names, or one name that ends in `.csd`
abbrev pub piece_of : Option ℕ → Option Text → Option Text → Option AskedPiece
piece_of (Some notes) None None = Some (demo notes)
piece_of None (Some orc) (Some sco) = Some (two_files orc sco)
piece_of None (Some csd) None = if ends_with nat_eq csd (codes ".csd") then Some (one_file csd) else None
piece_of _ _ _ = None

-- the width of samples with or without `-3`
abbrev pub width_of : Bool → SampleWidth
width_of true = width.ThreeBytes
width_of false = width.TwoBytes

-- `-W`, `-s` and `-d` are accepted, and change nothing
abbrev pub asked_of : List Use → AskedPiece → Asked
asked_of uses piece = record {
  workers = unwrap_or (option_map number_of (value_of (codes "j") uses)) 1;
  sound_file = unwrap_or (value_of (codes "o") uses) (codes "test.wav");
  width = width_of (has_use (codes "3") uses);
  silent = has_use (codes "n") uses;
  turns = has_use (codes "turns") uses;
  pool = has_use (codes "pool") uses;
  piece = piece;
}

-- what valid uses ask for together
abbrev pub asked_by : List Use → Option Asked
asked_by uses = option_map (asked_of uses)
    (piece_of (option_map number_of (value_of (codes "demo") uses)) (value_of (codes "ORC") uses)
    (value_of (codes "SCO") uses))

-- no value is missing, and the uses are valid together
abbrev pub asked : Said → Option Asked
asked s = if is_some s.wants then None else (if stands [] s.uses then asked_by s.uses else None)

-- what the arguments ask for; None if they have no reading
abbrev pub reading : List Text → Option Asked
reading words = option_and_then asked (said start words)
