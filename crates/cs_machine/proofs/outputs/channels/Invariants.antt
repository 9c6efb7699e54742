use Rattle.std.proofs.Common.{◌≡◌, ◌≤◌, pos, replicate}
use Rattle.std.specs.Vec.{vec_capacity}
use Rattle.cs_machine.proofs.outputs.channels.Given as goal

-- as many channels as were counted
abbrev pub invariant-loop : goal.invariant-loop
invariant-loop l = (l.counter ≤ l.count) × (l.all.items ≡ replicate l.counter (replicate l.ksmps (pos 0)))
    × (l.count ≤ vec_capacity l.all)
