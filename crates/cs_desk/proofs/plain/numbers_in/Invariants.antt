use Rattle.std.proofs.Common.{◌≡◌, ◌≤◌, length, take}
use Rattle.std.specs.Vec.{vec_capacity}
use Rattle.cs_cells.specs.Cells.{values}
use Rattle.cs_desk.proofs.plain.numbers_in.Given as goal

abbrev pub invariant-loop-at : goal.invariant-loop-at
invariant-loop-at l =
    (l.at ≤ length l.words) × (l.numbers.items ≡ take l.at (values l.words)) × (length l.words ≤ vec_capacity l.numbers)
