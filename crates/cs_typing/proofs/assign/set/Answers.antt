use Rattle.std.proofs.Common.{ap}
use Rattle.cs_typing.proofs.Walked.{one_added_always}
use Rattle.cs_typed.specs.TypedTree as typed
use Rattle.cs_typing.proofs.assign.set.Goals as goal

pub returns-clause-made : goal.returns-clause-made
returns-clause-made c =
    one_added_always c.args.done.now.items c.push.new.self.items _ _ c.in_ok-push.ensures.items
    (λ rs. ap (λ v. typed.alone (typed.set c.args.line c.args.to.rate c.args.to.var v)) c.in_ok-value.ensures.form)
