use Rattle.std.proofs.Common.{◌≡◌, ◌++◌, ◌∙◌, max, length, drop, IfOk, arith, ap, sym, subst}
use Rattle.std.specs.Rc.{rc_value}
use Rattle.cs_score.specs.inner.Runs.{run_items}
use Rattle.cs_score.proofs.Runs.{appended}
use Rattle.cs_score.proofs.values.+append.Goals as goal

pub returns-in_ok-extend_from_slice-in-Over : goal.returns-in_ok-extend_from_slice-in-Over
returns-in_ok-extend_from_slice-in-Over t c =
    let at : c.max.result ≡ max c.args.from (length c.in-Over.own) = omega (arith, c.max.ensures, c.len.ensures) in
    let old = c.args.nums.now.items in
    subst (λ items. IfOk c.append.result (λ _. c.append.new.nums.items ≡ old ++ drop c.args.from items))
    (ap run_items (sym c.in-Over.is ∙ c.as_ref.ensures))
    (appended c.append.result c.append.new.nums.items _ old _ c.in-Over.own
    (run_items (rc_value c.in-Over.below)) c.args.from c.max.result c.in_ok-extend_from_slice-in-Over.ensures.items
    c.rest-in-Over.ensures at c.append.ensures)
