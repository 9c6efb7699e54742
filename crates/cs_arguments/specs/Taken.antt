-- What the readers of clap's matches need to know about the arguments: their valid uses, and clap's rows of
-- them.
use Rattle.std.specs.Prelude.{Bool, false, if◌then◌else◌, List, [], ◌∷◌, Option, Some, None, is_some, fold, map}
use Rattle.clap.specs.{Values.reading_of, Walk.Row, Walk.with_default}
use Rattle.clap.specs.declared.parser.matches.ValueSource.TheVariants.{CommandLine}
use Rattle.cs_arguments.specs.Reading.{Said, Text, Use, said, stands, start}
use Rattle.cs_arguments.specs.Command.{parser_of, the_rules}

-- the uses are valid together
abbrev pub good : List Use → Bool
good us = stands [] us

-- all arguments are used, and the uses are valid together
abbrev pub accepted : Option Said → Bool
accepted None = false
accepted (Some s) = if is_some s.wants then false else good s.uses

-- the uses so far; none after a refusal
abbrev pub uses_or : Option Said → List Use
uses_or None = []
uses_or (Some s) = s.uses

-- whether clap accepts the arguments
abbrev pub is_taken : List Text → Bool
is_taken words = accepted (said start words)

-- the uses in the arguments
abbrev pub uses_in : List Text → List Use
uses_in words = uses_or (said start words)

-- a use as a row of the matches
abbrev pub row : Use → Row
row u = record {
  id = u.0;
  values = u.1 ∷ [];
  count = None;
  source = Some CommandLine;
  reading = reading_of (parser_of u.0);
}

-- uses as rows of the matches
abbrev pub rows : List Use → List Row
rows us = map row us

-- the rows at the end of a parse: the rows of the uses, and then the defaults
abbrev pub ends : List Use → List Row
ends us = fold with_default (rows us) the_rules
