use Rattle.std.proofs.Common.{◌≡◌, ◌+◌, drop}
use Rattle.cs_grammar.specs.Tree as tree
use Rattle.cs_typing.specs.Typing.{given_globals}
use Rattle.cs_typing.specs.inner.Globals.{IsDone, givers_in, names_in_block, names_in_bodies}
use Rattle.cs_typing.proofs.Weights.{weight, weight_before, weight_of}
use Rattle.cs_typing.proofs.globals.+globals.Given as goal
use Rattle.cs_udo.specs.Library.{definitions_of}

-- a definition weighs less than the definitions before its call
abbrev pub decreases-globals_of_stmt : goal.decreases-globals_of_stmt
decreases-globals_of_stmt l =
    weight_before (definitions_of l.front.library.now) l.front.visible + weight (tree.statement l.s.now)

abbrev pub decreases-globals_of_callee : goal.decreases-globals_of_callee
decreases-globals_of_callee l = weight_before (definitions_of l.front.library.now) l.front.visible + 1

abbrev pub decreases-globals_of_block : goal.decreases-globals_of_block
decreases-globals_of_block l =
    weight_before (definitions_of l.front.library.now) l.front.visible + weight_of (tree.block l.stmts.now)

-- adding the names of the rest to those so far yields the names of the whole
abbrev pub invariant-globals_of_block-loop-s : goal.invariant-globals_of_block-loop-s
invariant-globals_of_block-loop-s l =
    (given_globals l.given.names (names_in_block (givers_in l.front) (tree.block (drop l.s-index l.stmts)))
    ≡ given_globals l.initial.given.names (names_in_block (givers_in l.front) (tree.block l.stmts)))
    × IsDone (definitions_of l.front.library.now) l.given

abbrev pub invariant-globals_of_stmt-loop-a : goal.invariant-globals_of_stmt-loop-a
invariant-globals_of_stmt-loop-a l =
    (given_globals l.given.names (names_in_bodies (givers_in l.front) (drop l.a-index l.a-items))
    ≡ given_globals l.initial.given.names (names_in_bodies (givers_in l.front) l.a-items))
    × IsDone (definitions_of l.front.library.now) l.given
