use Rattle.std.proofs.Common.{◌≡◌, List, drop}
use Rattle.cs_typing.specs.{inner.Held.known_of, inner.Slots.taken_fault, inner.Slots.taken_set}
use Rattle.cs_typing.specs.inner.Routines.{all_given_in, known_in}
use Rattle.cs_typed.specs.TypedTree as typed
use Rattle.cs_typing.proofs.invoke.give_results.Given as goal

-- the rest has the fault and the form of the whole
abbrev pub invariant-loop-i : goal.invariant-loop-i
invariant-loop-i l =
    (taken_fault l.setting l.it.line (drop l.i l.it.results.now) (drop l.i l.it.definition.now.outs)
    ≡ taken_fault l.setting l.it.line l.it.results.now l.it.definition.now.outs)
    × ((rs : List typed.Block) → typed.then_block (typed.block rs l.done.items)
    (taken_set (known_of l.names) l.it.base l.it.line (drop l.i l.it.results.now) (drop l.i l.it.definition.now.outs)
    (drop l.i l.slots)) ≡ typed.then_block (typed.block rs l.initial.done.items)
    (taken_set (known_of l.initial.names) l.it.base l.it.line l.it.results.now l.it.definition.now.outs l.slots))
    × (known_in l.names.shared (all_given_in (known_of l.names).locals (drop l.i l.it.results.now))
    ≡ known_in l.initial.names.shared (all_given_in (known_of l.initial.names).locals l.it.results.now))
