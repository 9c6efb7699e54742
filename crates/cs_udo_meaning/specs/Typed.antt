-- Typing produces the typed form by numbers.
use Rattle.std.specs.Prelude.{◌≡◌}
use Rattle.cs_grammar.specs.Tree.{Block, Instrument, Orchestra}
use Rattle.cs_typing.specs.{Known.Shared, Typing.items, Typing.first_known, Typing.known_items}
use Rattle.cs_udo_meaning.specs.Numbered.{Numbering, Tells, numbered, block_by}
use Rattle.cs_typed.specs.TypedTree as typed

-- the global variables and channels that all bodies of an orchestra know at the end of its text
abbrev pub shared_of : Orchestra → Shared
shared_of o = (known_items (first_known o) (items o.zero o.instrs)).shared

-- Typed statements are the typed form of a text's statements, by some numbers that distinguish local
-- variables.
pub record IsNumbered (g : Shared) (b : Block) (made : typed.Block) : Type 0 where
  pub number : Numbering
  pub apart : Tells number
  pub is : made ≡ block_by g (numbered g number) b

-- A typed instrument is the typed form of a text's instrument, by some numbers that distinguish local
-- variables.
pub record IsNumberedInstrument (g : Shared) (i : Instrument) (made : typed.Instrument) : Type 0 where
  pub line : made.line ≡ i.line
  pub numbers : made.numbers ≡ i.numbers
  pub body : IsNumbered g i.body made.body
