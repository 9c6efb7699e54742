use Rattle.cs_report.proofs.Saying.{counts_are, other_part, other_text}
use Rattle.cs_report.proofs.counts.report_counts.Goals as goal

pub returns-clause-whole : goal.returns-clause-whole
returns-clause-whole g c =
    other_text _ _ c.say.result _ _
    (counts_are c.args.counts.now c.format.result.now c.format-2.result.now c.format-3.result.now c.format-4.result.now
    c.format-5.result.now
    c.format.ensures.text c.format-2.ensures.text c.format-3.ensures.text c.format-4.ensures.text
    c.format-5.ensures.text)
    c.say.ensures.whole

pub returns-clause-part : goal.returns-clause-part
returns-clause-part g c =
    other_part _ _ c.say.result _ _
    (counts_are c.args.counts.now c.format.result.now c.format-2.result.now c.format-3.result.now c.format-4.result.now
    c.format-5.result.now
    c.format.ensures.text c.format-2.ensures.text c.format-3.ensures.text c.format-4.ensures.text
    c.format-5.ensures.text)
    c.say.ensures.part
