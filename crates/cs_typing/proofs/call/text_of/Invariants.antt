use Rattle.std.proofs.Common.{◌≡◌, drop, map}
use Rattle.cs_grammar.specs.Tree.{argument}
use Rattle.cs_typing.specs.Calls.{text_of}
use Rattle.cs_typing.proofs.call.text_of.Given as goal

abbrev pub invariant-loop-arg : goal.invariant-loop-arg
invariant-loop-arg l =
    text_of (map argument (drop l.arg-index l.args)) ≡ text_of (map argument l.args)
