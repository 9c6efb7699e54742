use Rattle.std.proofs.Common.{◌+◌, ◌*◌, ◌-◌, ◌≤◌, length, Ok}
use Rattle.cs_grammar.specs.Grammar.{ReadsExpr, ReadsTail}
use Rattle.cs_grammar.specs.{Parts.rank, Reading.Reading, Tree.Expression, Tree.expression}
use Rattle.cs_grammar.proofs.parser.Parser.+expr.Given as goal

-- by the number of remaining symbols, and then by the level
abbrev pub decreases-expr : goal.decreases-expr
decreases-expr l = 16 * length l.self.now + (2 * rank l.level + 2)

abbrev pub decreases-boxed : goal.decreases-boxed
decreases-boxed l = 16 * length l.self.now + (2 * rank l.level + 3)

abbrev pub decreases-closed : goal.decreases-closed
decreases-closed l = 16 * length l.self.now + 14

abbrev pub decreases-operators : goal.decreases-operators
decreases-operators l = 16 * length l.self.now + (2 * rank l.level + 1)

abbrev pub decreases-fact : goal.decreases-fact
decreases-fact l = 16 * length l.self.now + 1

abbrev pub decreases-negation : goal.decreases-negation
decreases-negation l = 16 * length l.self.now

abbrev pub decreases-function : goal.decreases-function
decreases-function l = 16 * length l.self.now

abbrev pub decreases-bracket : goal.decreases-bracket
decreases-bracket l = 16 * length l.self.now

abbrev pub decreases-choice : goal.decreases-choice
decreases-choice l = 16 * length l.self.now

-- the part read so far is an expression of level `inner`
abbrev pub invariant-expr-loop-outer : goal.invariant-expr-loop-outer
invariant-expr-loop-outer l = record {
  reads : ReadsExpr l.scope l.inner (Ok l.fn.self) (Ok (expression l.value, l.self));
  goes : length l.self ≤ length l.fn.self;
  within : rank l.inner ≤ rank l.level;
}

abbrev pub decreases-expr-loop-outer : goal.decreases-expr-loop-outer
decreases-expr-loop-outer l = rank l.level - rank l.inner

-- every reading of the remaining operators is a reading of all operators
abbrev pub invariant-operators-loop-op : goal.invariant-operators-loop-op
invariant-operators-loop-op l = record {
  reads : (out : Reading Expression) → ReadsTail l.scope l.level (Ok (expression l.left, l.self)) out
      → ReadsTail l.scope l.level (Ok (expression l.fn.first, l.fn.self)) out;
  goes : length l.self ≤ length l.fn.self;
}

abbrev pub decreases-operators-loop-op : goal.decreases-operators-loop-op
decreases-operators-loop-op l = length l.self
