use Rattle.std.proofs.Common.{◌≡◌, drop}
use Rattle.cs_grammar.specs.Tree.{Block, arms}
use Rattle.cs_typing.specs.Statements.{all_init}
use Rattle.cs_typing.proofs.stmt.choice_rate.Given as goal

abbrev pub invariant-loop-arm : goal.invariant-loop-arm
invariant-loop-arm l = (els : Block) → all_init (arms els (drop l.arm-index l.list)) ≡ all_init (arms els l.list)
