use Rattle.std.proofs.Common.{◌≡◌, ◌≤◌, map, pos, replicate}
use Rattle.std.specs.Vec.{vec_capacity}
use Rattle.cs_machine.proofs.registers.rows.Given as goal

-- as many rows as were counted
abbrev pub invariant-loop : goal.invariant-loop
invariant-loop l = (l.counter ≤ l.count)
    × (map (λ row. row.items) l.all.items ≡ replicate l.counter (replicate l.ksmps (pos 0)))
    × (l.count ≤ vec_capacity l.all)
