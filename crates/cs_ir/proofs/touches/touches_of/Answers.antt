use Rattle.std.proofs.Common.{◌↔◌, subst, sym}
use Rattle.std.specs.List.{Contains}
use Rattle.cs_ir.specs.inner.Naming.{invoked}
use Rattle.cs_ir.proofs.touches.touches_of.Goals as goal

pub touched-requires-clause-invoked : goal.touched-requires-clause-invoked
touched-requires-clause-invoked c n =
    subst (λ l. Contains l n ↔ Contains (invoked c.args.steps.now) n) (sym c.deref.ensures.value)
    (c.in_ok-invoked.ensures n)

pub touched-requires-2-clause-invoked : goal.touched-requires-2-clause-invoked
touched-requires-2-clause-invoked c n =
    subst (λ l. Contains l n ↔ Contains (invoked c.args.steps.now) n) (sym c.deref-2.ensures.value)
    (c.in_ok-invoked.ensures n)

pub returns-clause-used : goal.returns-clause-used
returns-clause-used c = c.in_ok-touched.ensures

pub returns-clause-written : goal.returns-clause-written
returns-clause-written c = c.in_ok-touched-2.ensures
