-- The parts of an orchestra as written, one after another: the first rule that they break, the names known
-- after them, and their typed form.
use Rattle.std.specs.Prelude.{ℕ, List, [], ◌∷◌, ◌++◌, Option, None}
use Rattle.std.specs.Option.{option_or}
use Rattle.cs_base.specs.declared.fault.OrcFault.{OrcFault}
use Rattle.cs_grammar.specs.Tree.{Definition, Instrument, Orchestra}
use Rattle.cs_typed.specs.Places.{outside, inside}
use Rattle.cs_typed.specs.TypedTree as typed
use Rattle.cs_udo.specs.Expanded.{expanded_orchestra}
use Rattle.cs_typing.specs.Typing.{Item, alone, body, items, first_known, shared_names}
use Rattle.cs_typing.specs.inner.Routines.{KnownInBody, block_fault_in, known_after_block, known_in, no_locals}
use Rattle.cs_typing.specs.inner.Routines.{no_routines, routines_before, typed_block_in}
use Rattle.cs_typing.specs.inner.Settled.{Told}

-- ---- a part: statements outside instruments, which call no user-defined opcode, or an instrument

-- the names known at the beginning of an instrument
abbrev pub entered_in : KnownInBody → KnownInBody
entered_in k = known_in k.shared no_locals

-- the names known after a part
abbrev pub known_behind : List Definition → KnownInBody → Item → KnownInBody
known_behind ds k (alone b) = known_after_block no_routines k b
known_behind ds k (body i) =
    known_in (known_after_block (routines_before i.line ds) (entered_in k) i.body).shared k.locals

-- the names known after several parts
abbrev pub known_behind_all : List Definition → KnownInBody → List Item → KnownInBody
known_behind_all ds k [] = k
known_behind_all ds k (x ∷ rest) = known_behind_all ds (known_behind ds k x) rest

-- the first rule that a part breaks
abbrev pub part_fault : ℕ → List Definition → KnownInBody → Item → Option OrcFault
part_fault channels ds k (alone b) = block_fault_in (outside channels) no_routines k b
part_fault channels ds k (body i) = block_fault_in (inside channels) (routines_before i.line ds) (entered_in k) i.body

-- the first rule that parts break
abbrev pub parts_fault : ℕ → List Definition → KnownInBody → List Item → Option OrcFault
parts_fault channels ds k [] = None
parts_fault channels ds k (x ∷ rest) =
    option_or (part_fault channels ds k x) (parts_fault channels ds (known_behind ds k x) rest)

-- the typed form of an instrument
abbrev pub instrument_in : List Definition → KnownInBody → Instrument → typed.Instrument
instrument_in ds k i = record {
  line = i.line;
  numbers = i.numbers;
  body = typed_block_in (routines_before i.line ds) (entered_in k) i.body;
}

-- ---- the typed form of the parts so far

-- the typed statements outside instruments, and the typed instruments
pub record MadeParts : Type 0 where
  pub zero : typed.Block
  pub instrs : List typed.Instrument

-- typed parts with these fields
abbrev pub made_with : typed.Block → List typed.Instrument → MadeParts
made_with zero instrs = record { zero = zero; instrs = instrs }

-- no typed parts
abbrev pub nothing : MadeParts
nothing = made_with typed.no_stmt []

-- the typed form after one more part
abbrev pub after_part : List Definition → KnownInBody → MadeParts → Item → MadeParts
after_part ds k m (alone b) = made_with (typed.then_block m.zero (typed_block_in no_routines k b)) m.instrs
after_part ds k m (body i) = made_with m.zero (m.instrs ++ instrument_in ds k i ∷ [])

-- the typed form after more parts
abbrev pub after_parts : List Definition → KnownInBody → MadeParts → List Item → MadeParts
after_parts ds k m [] = m
after_parts ds k m (x ∷ xs) = after_parts ds (known_behind ds k x) (after_part ds k m x) xs

-- ---- the entire orchestra

-- the names known at the beginning: every global variable, including the variables of called user-defined
-- opcodes
abbrev pub begun : Orchestra → KnownInBody
begun o = known_in (first_known (expanded_orchestra o)).shared no_locals

-- the parts of an orchestra in the order of the text
abbrev pub parts_of : Orchestra → List Item
parts_of o = items o.zero o.instrs

-- the first rule that statements break, if the settings break none
abbrev pub statements_fault : ℕ → Orchestra → Option OrcFault
statements_fault channels o = parts_fault channels o.opcodes (begun o) (parts_of o)

-- the typed form of an orchestra, from its settings, the names known at its end, and the typed form of its
-- parts
abbrev pub made_from : Told → KnownInBody → MadeParts → typed.Orchestra
made_from t k m = record {
  head = t.head;
  spaces = t.spaces;
  zero = m.zero;
  instrs = m.instrs;
  globals = shared_names k.shared;
}

-- the typed form of an orchestra with these settings
abbrev pub typed_by : Told → Orchestra → typed.Orchestra
typed_by t o =
    made_from t (known_behind_all o.opcodes (begun o) (parts_of o))
    (after_parts o.opcodes (begun o) nothing (parts_of o))
