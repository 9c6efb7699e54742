use Rattle.std.proofs.Common.{◌≡◌, drop, map}
use Rattle.cs_typing.specs.{Typing.items, declared.orc.Typing.Typing, inner.Held.known_of, inner.Parts.parts_fault}
use Rattle.cs_typing.specs.inner.Walk.{AddsParts, AreSound}
use Rattle.cs_udo.specs.Library.{definitions_of}
use Rattle.cs_grammar.specs.Tree as tree
use Rattle.cs_typing.proofs.orc.Typing.add_parts.Given as goal

-- the rest has the fault of the whole, and the parts so far with the rest are all parts
abbrev pub invariant-loop-i : goal.invariant-loop-i
invariant-loop-i l =
    (parts_fault l.channels (definitions_of l.library) (known_of l.self.so_far.names)
    (items (tree.block l.rest) (map tree.instrument (drop l.i-index l.instrs)))
    ≡ parts_fault l.channels (definitions_of l.library) (known_of l.initial.self.so_far.names)
    (items (tree.block l.outside) (map tree.instrument l.instrs)))
    × ((t : Typing) → AddsParts l.channels (definitions_of l.library) l.self t
    (items (tree.block l.rest) (map tree.instrument (drop l.i-index l.instrs)))
    → AddsParts l.channels (definitions_of l.library) l.initial.self t
    (items (tree.block l.outside) (map tree.instrument l.instrs)))
    × AreSound l.channels (definitions_of l.library) l.self.so_far
