use Rattle.std.proofs.Common.{◌≡◌, ◌≤◌, length}
use Rattle.std.specs.{List.All, Vec.vec_capacity}
use Rattle.cs_pool.specs.inner.Lines.{IsIdle}
use Rattle.cs_pool.proofs.pool.start_all.Given as goal

abbrev pub invariant-loop : goal.invariant-loop
invariant-loop g l = All (λ line. IsIdle line) l.lines.items × (length l.lines.items ≡ l.counter)
    × (l.helpers ≤ vec_capacity l.lines)
