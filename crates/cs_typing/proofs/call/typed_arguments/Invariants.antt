use Rattle.std.proofs.Common.{◌≡◌, ◌++◌, drop, map}
use Rattle.cs_grammar.specs.Tree.{argument}
use Rattle.cs_typing.specs.{Calls.arguments_by, inner.Held.known_of, inner.Routines.variable_in}
use Rattle.cs_typed.specs.TypedTree as typed
use Rattle.cs_typing.proofs.call.typed_arguments.Given as goal

abbrev pub invariant-loop-arg : goal.invariant-loop-arg
invariant-loop-arg l =
    map typed.argument l.made.items ++ arguments_by l.names.shared (variable_in (known_of l.names)) l.role
    (map argument (drop l.arg-index l.args)) ≡ arguments_by l.names.shared (variable_in (known_of l.names)) l.role
    (map argument l.args)
