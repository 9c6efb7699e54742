use Rattle.cs_ir.specs.declared.op.Reach.TheVariants as reach
use Rattle.cs_ir.specs.declared.touches.Touch.TheVariants as touch
use Rattle.cs_ir.specs.Touched.{covers}
use Rattle.cs_rwset.proofs.Spans.{sought_here, sought_later}
use Rattle.cs_rwset.proofs.runs.next_place.Goals as goal

pub loop-place-preserved : goal.loop-place-preserved
loop-place-preserved c =
    sought_later c.args.layout.now (covers c.args.spaces (touch.Tables reach.Any)) c.args.of_table c.covers.result
    c.args.from c.loop-place.place c.area.result c.loop-place.invariant c.area.ensures c.covers.ensures
    c.if-covers-of_table.false

pub returns-then-covers-of_table-clause-here : goal.returns-then-covers-of_table-clause-here
returns-then-covers-of_table-clause-here c =
    sought_here c.args.layout.now (covers c.args.spaces (touch.Tables reach.Any)) c.args.of_table c.covers.result
    c.loop-place.place c.area.result c.area.ensures c.covers.ensures c.if-covers-of_table.true
