use Rattle.std.proofs.Common.{◌≡◌, ◌∙◌, drop, length, IfOk, arith, ap, sym, subst, refl}
use Rattle.std.proofs.lemmas.Slice.{drop-append-drop}
use Rattle.std.specs.Rc.{rc_value}
use Rattle.cs_score.specs.inner.Runs.{run_items}
use Rattle.cs_score.proofs.values.+behind.Goals as goal

pub returns-in-Over : goal.returns-in-Over
returns-in-Over t c =
    let below = run_items (rc_value c.in-Over.below) in
    subst (λ items. IfOk c.behind.result (λ values. drop c.args.count values ≡ items))
    (sym (drop-append-drop (length c.in-Over.own) below c.in-Over.own c.args.count (omega (arith, c.len.ensures)) refl)
    ∙ ap (λ r. drop c.args.count (run_items r)) (sym c.in-Over.is ∙ c.as_ref.ensures)) c.behind.ensures
