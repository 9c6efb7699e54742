use Rattle.std.proofs.Common.{◌≡◌, drop, map}
use Rattle.cs_typing.specs.{Typing.given_globals, inner.Globals.IsDone, inner.Globals.names_in_instruments}
use Rattle.cs_udo.specs.Library.{definitions_of}
use Rattle.cs_grammar.specs.Tree as tree
use Rattle.cs_typing.proofs.globals.globals_of_instruments.Given as goal

abbrev pub invariant-loop-i : goal.invariant-loop-i
invariant-loop-i l =
    (given_globals l.given.names
    (names_in_instruments (definitions_of l.library) (map tree.instrument (drop l.i-index l.instrs)))
    ≡ given_globals l.initial.given.names
    (names_in_instruments (definitions_of l.library) (map tree.instrument l.instrs)))
    × IsDone (definitions_of l.library) l.given
