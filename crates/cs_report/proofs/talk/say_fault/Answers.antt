use Rattle.cs_report.proofs.Saying.{says_fault}
use Rattle.cs_report.proofs.talk.say_fault.Goals as goal

pub returns : goal.returns
returns g c =
    says_fault _ _ c.args.text.now c.args.name.now c.format.result.now c.format-2.result.now c.args.line c.args.kind
    c.format.ensures.text
    c.format-2.ensures.text c.say_line.ensures
