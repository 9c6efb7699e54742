-- The command that reads the arguments: as it is made, and its rules as building leaves them.
use Rattle.std.specs.Prelude.{ℕ, pos, true, if◌then◌else◌, List, ◌∷◌, codes, Option, Some, None, bytes_eq, fold, []}
use Rattle.clap.specs.{Walk.Rule, declared.builder.value_parser.ValueParser.ValueParser}
use Rattle.clap.specs.Simple.{App, Shape, new_app, new_rule, new_shape, on_top, with_rule}
use Rattle.clap.specs.declared.builder.action.ArgAction.TheVariants.{Set, SetTrue}
use Rattle.cs_arguments.specs.{Reading.Text, Ranges.most_workers, Ranges.most_demo_notes}
use Rattle.clap.specs.declared.builder.value_parser.ValueParser.TheVariants as vp

-- ---- as it is made

-- a flag
abbrev pub made_flag : Text → Option Text → Option ℕ → Rule
made_flag key long short = record (new_rule key) { long = long; short = short; action = Some SetTrue }

-- the parser of the values of an option or name
abbrev pub parser_of : Text → ValueParser
parser_of key =
    if bytes_eq key (codes "j") then vp.Signed (pos 1) (pos most_workers)
    else (if bytes_eq key (codes "demo") then vp.Signed (pos 1) (pos most_demo_notes) else vp.NonEmptyString)

-- an option or name with a value
abbrev pub made_option : Text → Option Text → Option ℕ → Rule
made_option key long short =
    record (new_rule key) { long = long; short = short; action = Some Set; parser = Some (parser_of key) }

-- the command without arguments
abbrev pub bare_app : App
bare_app = on_top (λ s. record s {
  no_binary_name = true;
  disable_help_flag = true;
  disable_version_flag = true;
}) (new_app (codes "csplay"))

-- the options and flags of one letter
abbrev pub letter_rules : List Rule
letter_rules =
    made_option (codes "j") None (Some 106) ∷ made_option (codes "o") None (Some 111)
    ∷ made_flag (codes "W") None (Some 87) ∷ made_flag (codes "s") None (Some 115)
    ∷ made_flag (codes "d") None (Some 100) ∷ made_flag (codes "n") None (Some 110)
    ∷ made_flag (codes "3") None (Some 51) ∷ []

-- the long options and flags, and the names
abbrev pub other_rules : List Rule
other_rules =
    made_flag (codes "turns") (Some (codes "turns")) None ∷ made_flag (codes "pool") (Some (codes "pool")) None
    ∷ made_option (codes "demo") (Some (codes "demo")) None ∷ made_option (codes "ORC") None None
    ∷ made_option (codes "SCO") None None ∷ []

-- the command with the options and flags of one letter
abbrev pub lettered_app : App
lettered_app = fold with_rule bare_app letter_rules

-- the complete command
abbrev pub the_app : App
the_app = fold with_rule lettered_app other_rules

-- ---- as building leaves it

-- a flag, as building leaves it
abbrev pub flag_rule : Text → Option Text → Option ℕ → Rule
flag_rule key long short = record (made_flag key long short) {
  range = Some (record { start_inclusive = 0; end_inclusive = 0 });
  defaults = codes "false" ∷ [];
  missing = codes "true" ∷ [];
  parser = Some vp.Bool;
}

-- an option or name with a value, as building leaves it
abbrev pub option_rule : Text → Option Text → Option ℕ → Option ℕ → Rule
option_rule key long short index = record (made_option key long short) {
  range = Some (record { start_inclusive = 1; end_inclusive = 1 });
  index = index;
}

-- all rules, as building leaves them
abbrev pub the_rules : List Rule
the_rules =
    option_rule (codes "j") None (Some 106) None ∷ option_rule (codes "o") None (Some 111) None
    ∷ flag_rule (codes "W") None (Some 87) ∷ flag_rule (codes "s") None (Some 115)
    ∷ flag_rule (codes "d") None (Some 100)
    ∷ flag_rule (codes "n") None (Some 110) ∷ flag_rule (codes "3") None (Some 51)
    ∷ flag_rule (codes "turns") (Some (codes "turns")) None ∷ flag_rule (codes "pool") (Some (codes "pool")) None
    ∷ option_rule (codes "demo") (Some (codes "demo")) None None ∷ option_rule (codes "ORC") None None (Some 1)
    ∷ option_rule (codes "SCO") None None (Some 2) ∷ []

-- the complete command with these rules
abbrev pub shape : List Rule → Shape
shape rules = record (new_shape (codes "csplay")) {
  rules = rules;
  no_binary_name = true;
  disable_help_flag = true;
  disable_help_subcommand = true;
  disable_version_flag = true;
  is_built = true;
}
