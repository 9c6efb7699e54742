-- The facts about clap's matches.
use Rattle.std.specs.Prelude.{◌≡◌, List, Option, Some, None, true, false}
use Rattle.clap.specs.{Matches.found_of, Walk.rows_of, declared.parser.matches.ArgMatches.ArgMatches}
use Rattle.cs_arguments.specs.{Reading.Text, Reading.Use, Taken.ends, Taken.good, Taken.is_taken, Taken.uses_in}

-- the matches hold these uses, which are valid together
abbrev pub Holds : List Use → ArgMatches → Type 0
Holds uses m = (good uses ≡ true) × (rows_of (found_of m) ≡ ends uses)

-- clap accepts the arguments if and only if their uses are valid together
abbrev pub IsMatched : List Text → Option ArgMatches → Type 0
IsMatched words None = is_taken words ≡ false
IsMatched words (Some m) = (is_taken words ≡ true) × Holds (uses_in words) m
