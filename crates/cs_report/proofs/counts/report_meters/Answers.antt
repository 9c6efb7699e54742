use Rattle.cs_report.specs.Report.{line_room}
use Rattle.cs_report.proofs.Saying.{on_err, item_said, item_said_in_part}
use Rattle.cs_report.proofs.counts.report_meters.Goals as goal

pub returns-in_err-report_meter-clause-part : goal.returns-in_err-report_meter-clause-part
returns-in_err-report_meter-clause-part g c =
    on_err _ (item_said_in_part (λ b. (goal.Tap-dyn g (b.vtable, b.value)).text b.value line_room) c.args.taps.now
    c.loop-tap.tap-index c.tap-item.result
    _ _ _ c.loop-tap-test.true c.tap-item.is c.loop-tap.invariant c.in_err-report_meter.ensures.part)

pub loop-tap-preserved : goal.loop-tap-preserved
loop-tap-preserved g c =
    item_said (λ b. (goal.Tap-dyn g (b.vtable, b.value)).text b.value line_room) c.args.taps.now c.loop-tap.tap-index
    c.tap-item.result
    _ _ _ c.loop-tap-test.true c.tap-item.is c.loop-tap.invariant c.in_ok-report_meter.ensures.whole
