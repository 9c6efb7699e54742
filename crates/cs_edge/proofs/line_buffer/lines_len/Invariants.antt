use Rattle.std.proofs.Common.{◌≤◌, ◌≢◌, length, drop, All}
use Rattle.cs_base.specs.Lines.{line_feed}
use Rattle.cs_edge.proofs.line_buffer.lines_len.Given as goal

-- there is no line feed from this index on
abbrev pub invariant-loop-end : goal.invariant-loop-end
invariant-loop-end l = (l.end ≤ length l.text) × All (λ b. b ≢ line_feed) (drop l.end l.text)

abbrev pub decreases-loop-end : goal.decreases-loop-end
decreases-loop-end l = l.end
