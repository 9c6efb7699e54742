use Rattle.std.proofs.Common.{subst}
use Rattle.cs_desk.specs.Cycles.{IsCycle}
use Rattle.cs_crew_trial.proofs.cycle.opened.Goals as goal

pub open-requires : goal.open-requires
open-requires g c =
    let is = c.in-Some.ensures in
    subst (IsCycle g.J.Job.means c.in-Some.graph.value c.in-Some.desk) c.deref.ensures.value (record {
      notes = is.notes;
      fit = is.fit;
      over = is.over;
      footprints = is.footprints;
      room = is.room;
    })
