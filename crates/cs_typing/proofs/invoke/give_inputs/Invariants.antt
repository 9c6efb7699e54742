use Rattle.std.proofs.Common.{◌≡◌, List, drop, map}
use Rattle.cs_grammar.specs.Tree.{argument}
use Rattle.cs_typing.specs.inner.Held.{known_of, locals_of}
use Rattle.cs_typing.specs.{inner.Routines.inputs_fault, inner.Slots.given_set}
use Rattle.cs_typed.specs.TypedTree as typed
use Rattle.cs_typing.proofs.invoke.give_inputs.Given as goal

-- the rest has the fault and the form of the whole
abbrev pub invariant-loop-i : goal.invariant-loop-i
invariant-loop-i l =
    (inputs_fault l.setting (known_of l.names) l.it.line (drop l.i l.it.definition.now.names)
    (map argument (drop l.i l.it.args.now))
    ≡ inputs_fault l.setting (known_of l.names) l.it.line l.it.definition.now.names (map argument l.it.args.now))
    × ((rs : List typed.Block) → typed.then_block (typed.block rs l.done.items)
    (given_set (known_of l.names) (locals_of l.inputs) l.it.line (drop l.i l.it.definition.now.names)
    (map argument (drop l.i l.it.args.now))) ≡ typed.then_block (typed.block rs l.initial.done.items)
    (given_set (known_of l.names) (locals_of l.inputs) l.it.line l.it.definition.now.names
    (map argument l.it.args.now)))
