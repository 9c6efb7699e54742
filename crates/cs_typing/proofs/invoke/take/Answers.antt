use Rattle.cs_typing.proofs.Walked.{one_added_always}
use Rattle.cs_typed.specs.TypedTree as typed
use Rattle.cs_typing.proofs.invoke.take.Goals as goal

pub returns-clause-made : goal.returns-clause-made
returns-clause-made c =
    let from = c.args.from in
    one_added_always c.args.done.now.items c.push.new.self.items _ _ c.in_ok-push.ensures.items
    (λ rs i. typed.alone
    (typed.set c.args.line (c.name_rate-rate.ensures i) (c.variable.ensures i) (typed.var from.rate from.var)))
