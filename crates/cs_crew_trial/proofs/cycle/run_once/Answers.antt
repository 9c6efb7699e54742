use Rattle.std.proofs.Common.{subst}
use Rattle.cs_desk.specs.Cycles.{IsCycle}
use Rattle.cs_crew_trial.proofs.cycle.run_once.Goals as goal

pub run_cycle-receipt-requires-clause-cycle : goal.run_cycle-receipt-requires-clause-cycle
run_cycle-receipt-requires-clause-cycle g c κs within =
    let is = c.in-Some.ensures in
    subst (IsCycle g.J.Job.means c.in-Some.graph.value c.in-Some.desk) c.deref.ensures.value (record {
      notes = is.notes;
      fit = is.fit;
      over = is.over;
      footprints = is.footprints;
      room = is.room;
    })
