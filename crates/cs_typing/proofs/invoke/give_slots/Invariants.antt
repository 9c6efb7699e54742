use Rattle.std.proofs.Common.{◌≡◌, ◌++◌, List, drop, map}
use Rattle.cs_grammar.specs.Tree.{argument}
use Rattle.cs_typing.specs.{inner.Held.known_of, inner.Routines.known_in}
use Rattle.cs_typing.specs.inner.Slots.{slot_numbers, slots_fault, slots_past, slots_set}
use Rattle.cs_typed.specs.TypedTree as typed
use Rattle.cs_typing.proofs.invoke.give_slots.Given as goal

-- the rest has the fault and the form of the whole
abbrev pub invariant-loop-i : goal.invariant-loop-i
invariant-loop-i l =
    (slots_fault l.setting (known_of l.names) l.definition.line (drop l.i l.definition.outs)
    (map argument (drop l.i l.definition.result.items))
    ≡ slots_fault l.setting (known_of l.initial.names) l.definition.line l.definition.outs
    (map argument l.definition.result.items))
    × ((rs : List typed.Block) → typed.then_block (typed.block rs l.done.items)
    (slots_set (known_of l.names) l.definition.line (drop l.i l.definition.outs)
    (map argument (drop l.i l.definition.result.items))) ≡ typed.then_block (typed.block rs l.initial.done.items)
    (slots_set (known_of l.initial.names) l.definition.line l.definition.outs (map argument l.definition.result.items)))
    × (known_in l.names.shared (slots_past (known_of l.names).locals (drop l.i l.definition.outs)
    (map argument (drop l.i l.definition.result.items)))
    ≡ known_in l.initial.names.shared (slots_past (known_of l.initial.names).locals l.definition.outs
    (map argument l.definition.result.items)))
    × (l.slots.items ++ slot_numbers (known_of l.names).locals.counts (drop l.i l.definition.outs)
    (map argument (drop l.i l.definition.result.items))
    ≡ slot_numbers (known_of l.initial.names).locals.counts l.definition.outs (map argument l.definition.result.items))
