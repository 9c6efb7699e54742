use Rattle.std.proofs.Common.{◌≡◌, length, replicate}
use Rattle.cs_board.specs.declared.view.Berth.TheVariants.{Vacant}
use Rattle.cs_desk.proofs.resting.discard.Given as goal

abbrev pub invariant-loop-slot : goal.invariant-loop-slot
invariant-loop-slot g l = l.slots.items ≡ replicate (length l.slots.items) Vacant

abbrev pub decreases-loop-slot : goal.decreases-loop-slot
decreases-loop-slot g l = goal.left-loop-slot g l
