use Rattle.std.proofs.Common.{◌≡◌, drop, map}
use Rattle.cs_grammar.specs.Tree.{argument}
use Rattle.cs_typing.specs.Calls.{all_fit}
use Rattle.cs_typing.proofs.call.all_fit.Given as goal

abbrev pub invariant-loop-arg : goal.invariant-loop-arg
invariant-loop-arg l =
    (l.n ≡ l.arg-index) × (all_fit l.row l.bound l.n (map argument (drop l.arg-index l.args)) ≡ all_fit l.row l.bound 0
    (map argument l.args))
