use Rattle.std.proofs.Common.{◌≡◌, ◌<◌, ℕ, pos, slice_get, Some}
use Rattle.cs_ir.specs.Instruments.{Numbered}
use Rattle.cs_piece.proofs.stage.place_of.Given as goal

abbrev pub invariant-loop-place : goal.invariant-loop-place
invariant-loop-place l =
    (k : ℕ) (i : Numbered) → k < l.place → slice_get l.instruments k ≡ Some i → pos i.number ≡ l.fn.number → ⊥
