use Rattle.std.proofs.Common.{◌∙◌, ap, rules, sym}
use Rattle.std.specs.{BTreeMap.is_at, Map.set_value, Ordering.nat_cmp}
use Rattle.std.proofs.lemmas.Map.Steps.{set_value_same}
use Rattle.cs_sched.proofs.pending.put.Goals as goal

pub returns-in_err-push_back-in-Some-clause-same : goal.returns-in_err-push_back-in-Some-clause-same
returns-in_err-push_back-in-Some-clause-same c =
    let at = is_at (nat_cmp c.args.due.cycle) in
    let same = (c.get_mut.follows.holds c.push_back.new.self).0
    ∙ ap (set_value at c.args.dues.now.entries) c.in_err-push_back-in-Some.ensures.items
    ∙ set_value_same at c.args.dues.now.entries c.in-Some.others.now (sym c.in-Some.ensures.value) in
    search (rules, same)
