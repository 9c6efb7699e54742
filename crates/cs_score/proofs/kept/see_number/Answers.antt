use Rattle.std.proofs.Common.{◌==◌, ◌++◌, ◌∷◌, [], ap, sym, subst, ◌∙◌}
use Rattle.std.specs.List.{list_any}
use Rattle.cs_score.specs.inner.Counts.{IsSeen}
use Rattle.cs_score.proofs.Counts.{seen_again, seen_new}
use Rattle.cs_score.proofs.kept.see_number.Goals as goal

pub returns-then-contains : goal.returns-then-contains
returns-then-contains c = λ numbers s.
    seen_again c.args.seen.now.items numbers c.args.number
    (sym (c.if-contains.ensures.value ∙ ap (list_any (λ k. k == c.args.number)) c.deref.ensures.value)) s

pub returns : goal.returns
returns c = λ numbers s.
    subst (λ seen. IsSeen seen (numbers ++ c.args.number ∷ [])) (sym c.in_ok-push.ensures.items)
    (seen_new c.args.seen.now.items numbers c.args.number
    (sym (c.if-contains.ensures.value ∙ ap (list_any (λ k. k == c.args.number)) c.deref.ensures.value)) s)
