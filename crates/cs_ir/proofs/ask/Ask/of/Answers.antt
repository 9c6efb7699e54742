use Rattle.std.proofs.Common.{◌≡◌, drop, rules, take}
use Rattle.std.proofs.lemmas.Iterator.{YieldsList-from_slice, YieldsList-from_take, items_from_collect}
use Rattle.std.proofs.lemmas.{Iterator.Adapters.YieldsList-from_skip, Iterator.Consumers.YieldsList-from_copied}
use Rattle.std.proofs.lemmas.Result.{IfOk-at_ok}
use Rattle.cs_base.specs.Limits.{greatest_field}
use Rattle.cs_ir.proofs.ask.Ask.of.Goals as goal

pub returns : goal.returns
returns c =
    let values = c.args.values.now in
    let more : c.in_ok-collect.field-0.items ≡ drop 3 (take greatest_field values) =
    IfOk-at_ok _ c.in_ok-collect.was (items_from_collect c.collect.result c.collect.ensures.ran
    (YieldsList-from_copied (YieldsList-from_skip 3
    (YieldsList-from_take 100 (YieldsList-from_slice values (cc)) (cc)) (cc)))) in
    search (rules, more)
