use Rattle.std.proofs.Common.{◌≡◌, ◌∷◌, length}
use Rattle.cs_ugen.specs.Table.{index_step}
use Rattle.cs_signal.specs.{Operands.operand_at, Walk.HasRun}
use Rattle.cs_ugen.proofs.table.TableReader.block_on.Given as goal

abbrev pub invariant-loop-j : goal.invariant-loop-j
invariant-loop-j g l =
    HasRun (index_step g.R.Reading.on_index) (λ j. operand_at l.fn.ndx j ∷ g.C.Curve.points l.fn.curve) l.fn.self
    (length l.fn.out) l.j l.self l.out
    × (g.C.Curve.points l.curve ≡ g.C.Curve.points l.fn.curve) × g.C.Curve.kept l.fn.curve l.curve
