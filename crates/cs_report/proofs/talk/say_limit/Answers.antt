use Rattle.cs_report.proofs.Saying.{says_limit}
use Rattle.cs_report.proofs.talk.say_limit.Goals as goal

pub returns : goal.returns
returns g c =
    says_limit _ _ c.args.hit c.format.result.now c.format-2.result.now (rw c.number.ensures at c.format.ensures.text)
    c.format-2.ensures.text c.say_line.ensures
