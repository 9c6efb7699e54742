use Rattle.std.proofs.Common.{length, map, ◌≤◌}
use Rattle.cs_grammar.proofs.SoFar.{ListSoFar}
use Rattle.cs_grammar.proofs.parser.Parser.list.Given as goal
use Rattle.cs_grammar.specs.Tree.{argument}

abbrev pub invariant-loop-args : goal.invariant-loop-args
invariant-loop-args l = record {
  reads : ListSoFar l.scope l.role l.fn.self (map argument l.args.items) l.self;
  goes : length l.self ≤ length l.fn.self;
}

abbrev pub decreases-loop-args : goal.decreases-loop-args
decreases-loop-args l = length l.self
