use Rattle.std.proofs.Common.{◌≡◌, Err, ap, sym, refl, subst}
use Rattle.cs_score.specs.{Limits.IsRefusedFor, Limits.Passes, Statements.score_of}
use Rattle.cs_score.proofs.Reading.{refused_by}
use Rattle.cs_score.proofs.read.read_score.Goals as goal
use Rattle.cs_base.specs.declared.refusal.Refusal.TheVariants as refusal

pub returns-in_err-kept-clause-refused : goal.returns-in_err-kept-clause-refused
returns-in_err-kept-clause-refused c = λ r e.
    refused_by c.in_err-kept.field-0.0 r (score_of c.args.text.now) (rw e at c.from_residual.ensures.1)
    (λ f h. c.in_err-kept.ensures.fault f (ap (λ x. Err x) h))

pub returns-in-Err-clause-refused : goal.returns-in-Err-clause-refused
returns-in-Err-clause-refused c = λ r e.
    let whole = c.in_ok-kept.ensures.whole in
    let same : refusal.Limit c.in-Err.hit ≡ r = cc in
    subst (λ x. IsRefusedFor x (score_of c.args.text.now)) same
    (subst (Passes c.in-Err.hit) (sym whole.read) (c.in-Err.ensures.limit whole.all c.in-Err.hit whole.holds refl))
