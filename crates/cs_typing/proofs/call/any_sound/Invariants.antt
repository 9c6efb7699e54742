use Rattle.std.proofs.Common.{◌≡◌, drop, map}
use Rattle.cs_grammar.specs.Tree.{argument}
use Rattle.cs_typing.specs.Calls.{any_sound}
use Rattle.cs_typing.proofs.call.any_sound.Given as goal

abbrev pub invariant-loop-arg : goal.invariant-loop-arg
invariant-loop-arg l =
    any_sound (map argument (drop l.arg-index l.args)) ≡ any_sound (map argument l.args)
