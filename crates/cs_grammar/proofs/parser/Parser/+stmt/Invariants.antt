use Rattle.std.proofs.Common.{◌+◌, ◌*◌, ◌≤◌, length}
use Rattle.cs_grammar.proofs.StmtRules.{BlockSoFar, ArmsSoFar}
use Rattle.cs_grammar.proofs.parser.Parser.+stmt.Given as goal

-- by the number of remaining symbols, and then by the form that is read
abbrev pub decreases-conditional : goal.decreases-conditional
decreases-conditional l = 8 * length l.self.now + 1

abbrev pub decreases-what : goal.decreases-what
decreases-what l = 8 * length l.self.now + 2

abbrev pub decreases-stmt : goal.decreases-stmt
decreases-stmt l = 8 * length l.self.now + 3

abbrev pub decreases-block : goal.decreases-block
decreases-block l = 8 * length l.self.now + 4

abbrev pub decreases-otherwise : goal.decreases-otherwise
decreases-otherwise l = 8 * length l.self.now + 5

abbrev pub decreases-arm : goal.decreases-arm
decreases-arm l = 8 * length l.self.now + 5

abbrev pub decreases-arms : goal.decreases-arms
decreases-arms l = 8 * length l.self.now + 6

abbrev pub invariant-block-loop-stmts : goal.invariant-block-loop-stmts
invariant-block-loop-stmts l = record {
  reads : BlockSoFar l.scope l.fn.self l.stmts.items l.self;
  goes : length l.self ≤ length l.fn.self;
}

abbrev pub decreases-block-loop-stmts : goal.decreases-block-loop-stmts
decreases-block-loop-stmts l = length l.self

abbrev pub invariant-arms-loop-chain : goal.invariant-arms-loop-chain
invariant-arms-loop-chain l = record {
  reads : ArmsSoFar l.scope l.fn.self l.chain.items l.self;
  goes : length l.self ≤ length l.fn.self;
}

abbrev pub decreases-arms-loop-chain : goal.decreases-arms-loop-chain
decreases-arms-loop-chain l = length l.self
