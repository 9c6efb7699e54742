use Rattle.std.proofs.Common.{◌∙◌, ap, subst}
use Rattle.cs_ir.specs.{Flat.flat, Limits.ops_limit, Routines.library_in, Touched.named}
use Rattle.cs_ir.specs.Resources.{NameTheSame, ops_use, ops_write}
use Rattle.cs_ir.proofs.routine.Routine.of.Goals as goal

pub returns-clause-is : goal.returns-clause-is
returns-clause-is c =
    let rs = library_in c.args.routines.now in
    let lent = c.deref-2.ensures.value in
    let touches = c.in_ok-touches.touches in
    record {
      limits = λ k. c.in_ok-limits.ensures k ∙ ap (λ l. ops_limit k (flat rs l)) c.deref.ensures.value;
      used = λ stock. subst (λ l. NameTheSame (named stock touches.used.items) (ops_use stock (flat rs l))) lent
          (c.in_ok-touches.ensures.used stock);
      written = λ stock. subst (λ l. NameTheSame (named stock touches.written.items) (ops_write stock (flat rs l))) lent
          (c.in_ok-touches.ensures.written stock);
    }
