use Rattle.std.proofs.Common.{subst, List}
use Rattle.cs_ir.specs.{Resources.NameTheSame, Resources.ops_use, Resources.ops_write, Touched.named}
use Rattle.cs_ir.specs.declared.op.Op.{Op}
use Rattle.cs_ir.proofs.routine.Ops.touches.Goals as goal

pub returns-clause-used : goal.returns-clause-used
returns-clause-used c stock =
    subst (λ (ops : List Op). NameTheSame (named stock c.self.inside.body.touches.used.items) (ops_use stock ops))
    c.self.view_is (c.self.invariant.2.used stock)

pub returns-clause-written : goal.returns-clause-written
returns-clause-written c stock =
    subst (λ (ops : List Op). NameTheSame (named stock c.self.inside.body.touches.written.items) (ops_write stock ops))
    c.self.view_is (c.self.invariant.2.written stock)
