-- The typed form of the parts of an orchestra so far, and the results of calls that check parts.
use Rattle.std.specs.Prelude.{ℕ, List, [], ◌∷◌, ◌≡◌, ◌++◌, map, OnOk, Option, None, Result, Ok, Err}
use Rattle.cs_base.specs.{declared.fault.Or.Or, declared.fault.OrcFault.OrcFault}
use Rattle.cs_grammar.specs.Tree.{Definition, orchestra}
use Rattle.cs_typed.specs.{declared.tree.TypedInstr.TypedInstr, declared.tree.TypedOrc.TypedOrc}
use Rattle.cs_udo.specs.{Library.definitions_of, declared.library.Expansion.Expansion}
use Rattle.cs_typing.specs.{Typing.Item, declared.orc.Done.Done, declared.orc.Typing.Typing}
use Rattle.cs_typing.specs.{inner.Answers.HasFault, inner.Answers.Judged, inner.Parts.part_fault}
use Rattle.cs_typing.specs.{inner.Held.known_of, declared.routines.SoFar.SoFar, inner.Parts.nothing}
use Rattle.cs_typing.specs.declared.routines.RoutineTable.{RoutineTable}
use Rattle.cs_typing.specs.inner.Listed.{AreTyped, IsLonger, blocks_in}
use Rattle.cs_typing.specs.inner.Parts.{MadeParts, after_parts, begun, known_behind, known_behind_all, made_with}
use Rattle.cs_typed.specs.TypedTree as typed

-- the typed form so far, with these routines
abbrev pub made_of : List typed.Block → Done → MadeParts
made_of rs d = made_with (typed.block rs d.zero.items) (map (typed.instrument rs) d.instrs.items)

-- The invariant of the parts checked so far: each definition that has a routine has been typed.
abbrev pub AreSound : ℕ → List Definition → SoFar → Type 0
AreSound channels ds f = AreTyped channels ds f.names.shared f.routines

-- No part of an orchestra has been checked yet: the known names are those at its beginning, the invariant
-- holds for any number of channels, and there are no typed parts.
pub record IsBegun (e : Expansion) (t : Typing) : Type 0 where
  pub known : known_of t.so_far.names ≡ begun (orchestra e.orc.now)
  pub sound : (channels : ℕ) → AreSound channels (definitions_of e.library) t.so_far
  pub made : (rs : List typed.Block) → made_of rs t.made ≡ nothing

-- Parts have been added: the known names are those after them, their typed form is added, whichever routines
-- follow later, and the invariant holds.
pub record AddsParts (channels : ℕ) (ds : List Definition) (old new : Typing) (xs : List Item) : Type 0 where
  pub known : known_of new.so_far.names ≡ known_behind_all ds (known_of old.so_far.names) xs
  pub made : (more : List typed.Block) → made_of (blocks_in new.so_far.routines ++ more) new.made
      ≡ after_parts ds (known_of old.so_far.names) (made_of (blocks_in new.so_far.routines ++ more) old.made) xs
  pub longer : IsLonger old.so_far.routines new.so_far.routines
  pub sound : AreSound channels ds new.so_far

-- The call adds a part if it breaks no rule, and returns its fault otherwise.
abbrev pub AddsPart : {T : Type 0} → ℕ → List Definition → Typing → Typing → Result T (Or OrcFault) → Item → Type 0
AddsPart channels ds old new result x =
    Judged result (part_fault channels ds (known_of old.so_far.names) x)
    × OnOk result (AddsParts channels ds old new (x ∷ []))

-- The result is the typed form of an instrument, whichever routines follow later, or its fault.
abbrev pub GivesInstrument : RoutineTable → Result TypedInstr (Or OrcFault) → Option OrcFault → typed.Instrument
    → Type 0
GivesInstrument t (Ok x) fault form =
    (fault ≡ None) × ((more : List typed.Block) → typed.instrument (blocks_in t ++ more) x ≡ form)
GivesInstrument t (Err e) fault form = HasFault e fault

-- An instrument has been checked: the known names are those after it, and the invariant holds.
pub record IsBehind (channels : ℕ) (ds : List Definition) (old new : SoFar) (x : Item) : Type 0 where
  pub known : known_of new.names ≡ known_behind ds (known_of old.names) x
  pub longer : IsLonger old.routines new.routines
  pub sound : AreSound channels ds new

-- The result is the typed orchestra if there is no fault, and the fault otherwise.
abbrev pub GivesOrc : Result TypedOrc (Or OrcFault) → Option OrcFault → typed.Orchestra → Type 0
GivesOrc (Ok x) fault form = (fault ≡ None) × (typed.orchestra x ≡ form)
GivesOrc (Err e) fault form = HasFault e fault
