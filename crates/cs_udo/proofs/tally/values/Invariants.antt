use Rattle.std.proofs.Common.{◌≡◌, ◌+◌, drop, map}
use Rattle.std.specs.List.{prefix_len}
use Rattle.cs_grammar.specs.Tree.{argument}
use Rattle.cs_udo.specs.inner.Tallies.{is_value}
use Rattle.cs_udo.proofs.tally.values.Given as goal

abbrev pub invariant-loop-arg : goal.invariant-loop-arg
invariant-loop-arg l =
    (l.count ≡ l.arg-index)
    × (l.count + prefix_len is_value (map argument (drop l.arg-index l.args)) ≡ prefix_len is_value
    (map argument l.args))
