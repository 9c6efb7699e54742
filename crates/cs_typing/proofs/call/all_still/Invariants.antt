use Rattle.std.proofs.Common.{◌≡◌, drop, map}
use Rattle.cs_grammar.specs.Tree.{argument}
use Rattle.cs_typing.specs.Calls.{is_still}
use Rattle.std.specs.List.{list_all}
use Rattle.cs_typing.proofs.call.all_still.Given as goal

abbrev pub invariant-loop-arg : goal.invariant-loop-arg
invariant-loop-arg l =
    list_all is_still (map argument (drop l.arg-index l.args)) ≡ list_all is_still (map argument l.args)
