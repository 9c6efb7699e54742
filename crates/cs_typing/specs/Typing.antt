-- An orchestra: its first broken rule, and its typed form.
use Rattle.std.specs.Prelude.{ℕ, List, [], ◌∷◌, nat_lt, Option, Some, None, Result, Ok, Err, if◌then◌else◌}
use Rattle.std.specs.Option.{option_or}
use Rattle.cs_base.specs.declared.fault.OrcFault.{OrcFault}
use Rattle.cs_words.specs.Names.{is_global}
use Rattle.cs_grammar.specs.Tree.{Statement, set, call, choose, Block, no_stmt, andthen, Arms, otherwise, arm}
use Rattle.cs_grammar.specs.Tree.{Instrument, Orchestra}
use Rattle.cs_typed.specs.Places.{outside, inside}
use Rattle.cs_typing.specs.Known.{RateNames, no_names, added, Shared, KnownHere, known_with, first_with}
use Rattle.cs_typing.specs.Settings.{header, settings_fault, zaks_of_block, zak_spaces}
use Rattle.cs_typing.specs.Statements.{block_fault, known_block, typed_block}
use Rattle.cs_typed.specs.TypedTree as typed

-- the global variables after one more was assigned; a local one is ignored
abbrev pub given_global : RateNames → List ℕ → RateNames
given_global t name = if is_global name then added t name else t

-- the global variables after several were assigned
abbrev pub given_globals : RateNames → List (List ℕ) → RateNames
given_globals t [] = t
given_globals t (name ∷ names) = given_globals (given_global t name) names

abbrev mutual
  pub globals : RateNames → Statement → RateNames
  globals t (set line name e) = given_global t name
  globals t (call line results callee args) = given_globals t results
  globals t (choose line list) = globals_of_arms t list

  pub globals_of_block : RateNames → Block → RateNames
  globals_of_block t no_stmt = t
  globals_of_block t (andthen x rest) = globals_of_block (globals t x) rest

  pub globals_of_arms : RateNames → Arms → RateNames
  globals_of_arms t (otherwise b) = globals_of_block t b
  globals_of_arms t (arm c b rest) = globals_of_arms (globals_of_block t b) rest

-- the global variables after those that instruments assign
abbrev pub globals_of_instruments : RateNames → List Instrument → RateNames
globals_of_instruments t [] = t
globals_of_instruments t (i ∷ rest) = globals_of_instruments (globals_of_block t i.body) rest

-- the global variables of an orchestra, beginning with those that the code outside instruments assigns
abbrev pub all_globals : Orchestra → RateNames
all_globals o = globals_of_instruments (globals_of_block no_names o.zero) o.instrs

-- the line of a statement
abbrev pub line_of : Statement → ℕ
line_of (set line name e) = line
line_of (call line results callee args) = line
line_of (choose line list) = line

-- the statements before a line
abbrev pub before : ℕ → Block → Block
before line no_stmt = no_stmt
before line (andthen x rest) = if nat_lt (line_of x) line then andthen x (before line rest) else no_stmt

-- the statements from a line on
abbrev pub from : ℕ → Block → Block
from line no_stmt = no_stmt
from line (andthen x rest) = if nat_lt (line_of x) line then from line rest else andthen x rest

-- A part of an orchestra: statements outside instruments, or an instrument.
pub data Item : Type 0 where
  alone : Block → Item
  body : Instrument → Item

-- the parts in the order of the text
abbrev pub items : Block → List Instrument → List Item
items outside [] = alone outside ∷ []
items outside (i ∷ rest) = alone (before i.line outside) ∷ body i ∷ items (from i.line outside) rest

-- An instrument begins without local variables. Channels carry over from part to part.
abbrev pub entered : KnownHere → KnownHere
entered n = known_with n.shared no_names

-- the names known after an instrument: its shared names, and the local variables outside
abbrev pub left : KnownHere → KnownHere → KnownHere
left n m = known_with m.shared n.locals

-- the names known after a part
abbrev pub known_item : KnownHere → Item → KnownHere
known_item n (alone b) = known_block n b
known_item n (body i) = left n (known_block (entered n) i.body)

-- the names known after several parts
abbrev pub known_items : KnownHere → List Item → KnownHere
known_items n [] = n
known_items n (x ∷ rest) = known_items (known_item n x) rest

-- the first rule that a part breaks
abbrev pub item_fault : ℕ → KnownHere → Item → Option OrcFault
item_fault channels n (alone b) = block_fault (outside channels) n b
item_fault channels n (body i) = block_fault (inside channels) (entered n) i.body

-- the first rule that parts break
abbrev pub items_fault : ℕ → KnownHere → List Item → Option OrcFault
items_fault channels n [] = None
items_fault channels n (x ∷ rest) = option_or (item_fault channels n x) (items_fault channels (known_item n x) rest)

-- the names known at the beginning: every global variable
abbrev pub first_known : Orchestra → KnownHere
first_known o = first_with (all_globals o)

-- the first rule of rates, names and types that an orchestra breaks
abbrev pub type_fault : Orchestra → Option OrcFault
type_fault o =
    option_or (settings_fault o.head o.zero)
    (items_fault (header o.head).nchnls (first_known o) (items o.zero o.instrs))

-- the typed statements of all parts outside instruments
abbrev pub typed_outside : KnownHere → List Item → typed.Block
typed_outside n [] = typed.no_stmt
typed_outside n (alone b ∷ rest) = typed.then_block (typed_block n b) (typed_outside (known_block n b) rest)
typed_outside n (body i ∷ rest) = typed_outside (known_item n (body i)) rest

-- the typed form of an instrument
abbrev pub typed_instrument : KnownHere → Instrument → typed.Instrument
typed_instrument n i = record {
  line = i.line;
  numbers = i.numbers;
  body = typed_block (entered n) i.body;
}

-- the typed instruments
abbrev pub typed_instruments : KnownHere → List Item → List typed.Instrument
typed_instruments n [] = []
typed_instruments n (alone b ∷ rest) = typed_instruments (known_block n b) rest
typed_instruments n (body i ∷ rest) = typed_instrument n i ∷ typed_instruments (known_item n (body i)) rest

-- the names of shared variables and channels
abbrev pub shared_names : Shared → typed.SharedNames
shared_names s = record { variables = s.globals; control = s.control; sound = s.sound }

-- the typed form of an orchestra
abbrev pub typed_of : Orchestra → typed.Orchestra
typed_of o = record {
  head = header o.head;
  spaces = zak_spaces (zaks_of_block o.zero);
  zero = typed_outside (first_known o) (items o.zero o.instrs);
  instrs = typed_instruments (first_known o) (items o.zero o.instrs);
  globals = shared_names (known_items (first_known o) (items o.zero o.instrs)).shared;
}

-- the result for an orchestra: its first fault, or its typed form
abbrev pub judged : Option OrcFault → typed.Orchestra → Result typed.Orchestra OrcFault
judged (Some fault) typed_orchestra = Err fault
judged None typed_orchestra = Ok typed_orchestra

-- the typed form of an orchestra, or its first fault
abbrev pub typing : Orchestra → Result typed.Orchestra OrcFault
typing o = judged (type_fault o) (typed_of o)
