use Rattle.std.proofs.Common.{◌∙◌, ap, subst}
use Rattle.cs_ir.specs.Drafts.{Grew}
use Rattle.cs_meaning.specs.When.{beginning}
use Rattle.cs_code.specs.{inner.Code.on_code, inner.Emitted.expressions_of, inner.Emitted.when_of}
use Rattle.cs_ir.specs.declared.op.Act.TheVariants as act
use Rattle.cs_code.proofs.simple.seek.Goals as goal

pub returns : goal.returns
returns c =
    let es = expressions_of c.args.settled.now in
    subst (Grew c.args.ops.now c.push_on.new.ops) (ap (λ w. on_code (when_of w) 0 act.Seek c.temp.result es) c.requires
    ∙ ap (λ q. on_code beginning 0 act.Seek q es) c.temp.ensures) c.in_ok-push_on.ensures.ops
