use Rattle.cs_edge.specs.Moves.{WroteMore}
use Rattle.cs_report.specs.Report.{line_room}
use Rattle.cs_report.proofs.Saying.{so_far}
use Rattle.cs_report.proofs.counts.report_meters.Given as goal

-- the lines of the meters so far have been written
abbrev pub invariant-loop-tap : goal.invariant-loop-tap
invariant-loop-tap g l =
    WroteMore (g.T.Sink.tells l.initial.talk) (g.T.Sink.tells l.talk)
    (so_far (λ b. (goal.Tap-dyn g (b.vtable, b.value)).text b.value line_room) l.taps l.tap-index)
