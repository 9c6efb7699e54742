use Rattle.std.proofs.Common.{◌<◌, arith, subst, sym}
use Rattle.cs_base.specs.Limits.{most_asks}
use Rattle.cs_sched.specs.inner.ByCycle.{at_cycle}
use Rattle.cs_sched.proofs.Cycles.{kept_waits, own_more, same_by_cycle, still_by_cycle}
use Rattle.cs_sched.proofs.pending.Pending.keep.Goals as goal

pub invariant_of-self : goal.invariant_of-self
invariant_of-self c =
    same_by_cycle c.self.inside.dues c.put.new.dues c.self.inside.kept c.in_err-put.ensures.same c.self.invariant

pub invariant_of-self-2 : goal.invariant_of-self-2
invariant_of-self-2 c =
    let few : c.self.inside.kept < most_asks = subst (λ v. v.kept < most_asks) (sym c.self.view_is) c.requires in
    still_by_cycle c.self.inside.dues c.put.new.dues c.args.due.cycle c.self.inside.kept _ _ c.self.invariant
    c.in_ok-put.ensures.put (c.in_ok-put.ensures.ordered c.self.invariant.ordered)
    (own_more (at_cycle c.self.inside.dues c.args.due.cycle) c.args.due (c.self.invariant.own c.args.due.cycle))
    (omega (arith, few))

pub returns-clause-waits : goal.returns-clause-waits
returns-clause-waits c =
    rw (← c.self.view_is) (kept_waits c.self.inside.dues c.put.new.dues c.self.inside.kept c.args.due c.self.invariant
    (invariant_of-self-2 c) c.in_ok-put.ensures.put)
