use Rattle.std.proofs.lemmas.Result.{on_err_weaker, on_ok_weaker}
use Rattle.cs_report.proofs.Saying.{on_err, one_in_part, third_in_part, two_in_part, wrote_thrice}
use Rattle.cs_report.proofs.counts.report.Goals as goal

pub returns-in_err-report_counts-clause-part : goal.returns-in_err-report_counts-clause-part
returns-in_err-report_counts-clause-part g c = on_err _ (one_in_part _ _ _ _ _ c.in_err-report_counts.ensures.part)

pub returns-in_err-report_meters-clause-part : goal.returns-in_err-report_meters-clause-part
returns-in_err-report_meters-clause-part g c =
    on_err _ (two_in_part _ _ _ _ _ _ c.in_ok-report_counts.ensures.whole c.in_err-report_meters.ensures.part)

pub returns-clause-whole : goal.returns-clause-whole
returns-clause-whole g c =
    on_ok_weaker c.write_all.result
    (wrote_thrice _ _ _ _ _ _ _ c.in_ok-report_counts.ensures.whole c.in_ok-report_meters.ensures.whole)
    c.write_all.ensures.written

pub returns-clause-part : goal.returns-clause-part
returns-clause-part g c =
    on_err_weaker c.write_all.result
    (third_in_part _ _ _ _ _ _ _ c.in_ok-report_counts.ensures.whole c.in_ok-report_meters.ensures.whole)
    c.write_all.ensures.part
