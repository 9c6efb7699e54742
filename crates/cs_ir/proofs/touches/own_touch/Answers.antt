use Rattle.std.proofs.Common.{◌∙◌, [], ap, if◌then◌else◌, sym}
use Rattle.cs_ir.specs.Resources.{act_uses}
use Rattle.cs_ir.specs.inner.Naming.{access_of, step_touches}
use Rattle.cs_ir.specs.declared.step.Step.TheVariants as step
use Rattle.cs_ir.proofs.touches.own_touch.Goals as goal

pub returns-else-writes : goal.returns-else-writes
returns-else-writes c stock =
    let op = c.in-Write-Do.op in
    sym (c.writes.ensures stock ∙ ap (λ b. if b then act_uses stock op.act else []) c.if-writes.false)
    ∙ ap (λ a. step_touches (access_of a) stock (step.Do op)) (sym c.in-Write-Do.is-0)
    ∙ ap (step_touches (access_of c.args.access) stock) (sym c.in-Write-Do.is-1)
