use Rattle.std.proofs.Common.{◌≡◌, ◌≤◌, replicate}
use Rattle.std.specs.Vec.{vec_capacity}
use Rattle.cs_board.specs.declared.view.Berth.TheVariants.{Vacant}
use Rattle.cs_desk.proofs.resting.vacant_slots.Given as goal

abbrev pub invariant-loop : goal.invariant-loop
invariant-loop g l = (l.counter ≤ l.count) × (l.slots.items ≡ replicate l.counter Vacant)
    × (l.count ≤ vec_capacity l.slots)
