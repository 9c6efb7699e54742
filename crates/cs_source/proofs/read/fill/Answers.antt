use Rattle.std.proofs.Common.{arith}
use Rattle.cs_edge.specs.declared.moves.Move.TheVariants.{Read}
use Rattle.cs_edge.proofs.Chains.{all_on}
use Rattle.cs_source.proofs.Readings.{block_on, block_end}
use Rattle.cs_source.proofs.read.fill.Goals as goal

pub loop-text-preserved : goal.loop-text-preserved
loop-text-preserved g c =
    block_on _ _ _ (g.F.Shelf.tells c.loop-text.shelf) _ c.loop-text.text.items _ _ c.loop-text.invariant.0
    c.loop-text.invariant.1
    (omega (arith, c.len-in-loop-text.ensures)) c.in-Ok-true.ensures.read

pub returns-in-Ok-false-clause-front : goal.returns-in-Ok-false-clause-front
returns-in-Ok-false-clause-front g c =
    block_end _ _ _ (g.F.Shelf.tells c.loop-text.shelf) _ c.loop-text.text.items _ c.in-Ok-false.field-0
    c.loop-text.invariant.0
    c.loop-text.invariant.1 c.in-Ok-false.field-0-test c.in-Ok-false.ensures.read

pub returns-in-Ok-false-clause-moves : goal.returns-in-Ok-false-clause-moves
returns-in-Ok-false-clause-moves g c = all_on Read _ _ _ c.loop-text.invariant.1.made c.in-Ok-false.ensures.moves

pub returns-in-Err-clause-moves : goal.returns-in-Err-clause-moves
returns-in-Err-clause-moves g c = all_on Read _ _ _ c.loop-text.invariant.1.made c.in-Err.ensures.moves
