use Rattle.std.proofs.Common.{◌≡◌, drop, map}
use Rattle.cs_grammar.specs.Tree.{argument}
use Rattle.cs_udo.specs.Refused.{has_text}
use Rattle.cs_udo.proofs.refuse.has_text.Given as goal

abbrev pub invariant-loop-arg : goal.invariant-loop-arg
invariant-loop-arg l =
    has_text (map argument (drop l.arg-index l.args)) ≡ has_text (map argument l.args)
