use Rattle.std.proofs.Common.{◌≡◌, ◌+◌, ◌++◌, List, drop}
use Rattle.cs_grammar.specs.declared.tree.Arm.{out-Arm}
use Rattle.cs_typing.specs.{inner.Held.known_of, inner.Routines.typed_arms_in, inner.Routines.typed_block_in}
use Rattle.cs_typing.specs.inner.Listed.{IsAhead, blocks_in, routines_at}
use Rattle.cs_typing.specs.inner.Routines.{arms_fault_in, block_fault_in, known_after_arms, known_after_block}
use Rattle.cs_typing.proofs.Joined.{with_arms}
use Rattle.cs_typing.proofs.Weights.{weight, weight_before, weight_of, weight_of_bodies}
use Rattle.cs_udo.specs.Library.{definitions_of}
use Rattle.cs_grammar.specs.Tree as tree
use Rattle.cs_typed.specs.TypedTree as typed
use Rattle.cs_typing.proofs.stmt.+typing.Given as goal

-- a definition weighs less than the definitions before its call
abbrev pub decreases-stmt : goal.decreases-stmt
decreases-stmt l =
    weight_before (definitions_of l.site.now.library.now) l.site.now.visible + weight (tree.statement l.s.now)

abbrev pub decreases-choice : goal.decreases-choice
decreases-choice l =
    weight_before (definitions_of l.site.now.library.now) l.site.now.visible
    + (1 + weight_of_bodies l.list.now + weight_of (tree.block l.els.now))

abbrev pub decreases-invoke : goal.decreases-invoke
decreases-invoke l = weight_before (definitions_of l.site.now.library.now) l.site.now.visible + 3

abbrev pub decreases-typed_routine : goal.decreases-typed_routine
decreases-typed_routine l = weight_before (definitions_of l.site.now.library.now) l.site.now.visible + 2

abbrev pub decreases-block : goal.decreases-block
decreases-block l =
    weight_before (definitions_of l.site.now.library.now) l.site.now.visible + weight_of (tree.block l.stmts.now)

abbrev pub decreases-arm : goal.decreases-arm
decreases-arm l =
    weight_before (definitions_of l.site.now.library.now) l.site.now.visible
    + (1 + weight_of (tree.block (out-Arm l.a.now).body.items))

-- the rest has the fault and the form of the whole, whichever routines follow later
abbrev pub invariant-block-loop-s : goal.invariant-block-loop-s
invariant-block-loop-s l =
    (block_fault_in l.site.setting (routines_at l.site) (known_of l.so_far.names) (tree.block (drop l.s-index l.stmts))
    ≡ block_fault_in l.site.setting (routines_at l.site) (known_of l.initial.so_far.names) (tree.block l.stmts))
    × ((more : List typed.Block) → typed.then_block (typed.block (blocks_in l.so_far.routines ++ more) l.done.items)
    (typed_block_in (routines_at l.site) (known_of l.so_far.names) (tree.block (drop l.s-index l.stmts)))
    ≡ typed_block_in (routines_at l.site) (known_of l.initial.so_far.names) (tree.block l.stmts))
    × (known_after_block (routines_at l.site) (known_of l.so_far.names) (tree.block (drop l.s-index l.stmts))
    ≡ known_after_block (routines_at l.site) (known_of l.initial.so_far.names) (tree.block l.stmts))
    × IsAhead l.site l.initial.so_far l.so_far

abbrev pub invariant-choice-loop-a : goal.invariant-choice-loop-a
invariant-choice-loop-a l =
    let els = tree.block l.els in
    (arms_fault_in l.site.setting (routines_at l.site) (known_of l.so_far.names) l.line
    (tree.arms els (drop l.a-index l.list))
    ≡ arms_fault_in l.site.setting (routines_at l.site) (known_of l.initial.so_far.names) l.line (tree.arms els l.list))
    × ((more : List typed.Block) → with_arms (blocks_in l.so_far.routines ++ more) l.typed.items
    (typed_arms_in (routines_at l.site) (known_of l.so_far.names) (tree.arms els (drop l.a-index l.list)))
    ≡ typed_arms_in (routines_at l.site) (known_of l.initial.so_far.names) (tree.arms els l.list))
    × (known_after_arms (routines_at l.site) (known_of l.so_far.names) (tree.arms els (drop l.a-index l.list))
    ≡ known_after_arms (routines_at l.site) (known_of l.initial.so_far.names) (tree.arms els l.list))
    × IsAhead l.site l.initial.so_far l.so_far
