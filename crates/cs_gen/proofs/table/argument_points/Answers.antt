use Rattle.cs_gen.specs.Faults.{argument}
use Rattle.cs_gen.proofs.Places.{map-range-push}
use Rattle.cs_gen.proofs.table.argument_points.Goals as goal

pub loop-j-preserved : goal.loop-j-preserved
loop-j-preserved c =
    map-range-push (argument c.args.args.now) c.loop-j.points.items _ c.loop-j.j c.argument.result c.loop-j.invariant
    c.in_ok-push.ensures.items c.argument.ensures
