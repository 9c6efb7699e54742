use Rattle.std.specs.List.{All}
use Rattle.cs_pool.specs.inner.Lines.{IsIdle}
use Rattle.cs_pool.proofs.pool.close_all.Given as goal

abbrev pub invariant-loop-line : goal.invariant-loop-line
invariant-loop-line g l = All (λ line. IsIdle line) l.lines.items

abbrev pub decreases-loop-line : goal.decreases-loop-line
decreases-loop-line g l = goal.left-loop-line g l
