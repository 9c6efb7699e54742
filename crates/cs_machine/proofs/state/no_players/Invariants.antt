use Rattle.std.proofs.Common.{◌≡◌, ◌≤◌, None, replicate}
use Rattle.std.specs.Vec.{vec_capacity}
use Rattle.cs_machine.proofs.state.no_players.Given as goal

-- as many places as were counted
abbrev pub invariant-loop : goal.invariant-loop
invariant-loop l = (l.counter ≤ l.count) × (l.players.items ≡ replicate l.counter None)
    × (l.count ≤ vec_capacity l.players)
