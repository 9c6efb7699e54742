use Rattle.std.proofs.Common.{◌≡◌, ◌<◌, ◌≤◌, ℕ, not, slice_get, Some}
use Rattle.cs_cells.specs.declared.footprint.Area.{Area}
use Rattle.cs_ir.specs.declared.op.Reach.TheVariants as reach
use Rattle.cs_ir.specs.declared.touches.Touch.TheVariants as touch
use Rattle.cs_ir.specs.Touched.{covers}
use Rattle.cs_rwset.proofs.runs.next_place.Given as goal

abbrev pub invariant-loop-place : goal.invariant-loop-place
invariant-loop-place l = (k : ℕ) (a : Area) → slice_get l.layout k ≡ Some a → l.from ≤ k → k < l.place
    → covers l.spaces (touch.Tables reach.Any) a.res ≡ not l.of_table
