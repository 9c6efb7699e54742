use Rattle.std.proofs.Common.{◌≡◌, drop, map}
use Rattle.cs_grammar.specs.Tree.{argument}
use Rattle.cs_typing.specs.{Calls.all_read_by, inner.Held.known_of, inner.Routines.knows_in}
use Rattle.cs_typing.proofs.call.all_known.Given as goal

abbrev pub invariant-loop-arg : goal.invariant-loop-arg
invariant-loop-arg l =
    all_read_by (knows_in (known_of l.names)) (map argument (drop l.arg-index l.args))
    ≡ all_read_by (knows_in (known_of l.names)) (map argument l.args)
