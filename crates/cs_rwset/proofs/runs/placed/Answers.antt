use Rattle.std.proofs.Common.{arith}
use Rattle.cs_rwset.proofs.Spans.{placed_is}
use Rattle.cs_rwset.proofs.runs.placed.Goals as goal

pub returns : goal.returns
returns c areas s spaces laid small sized counted order =
    let numbers = c.numbers_within-numbers in
    let from = c.saturating_add.ensures in
    let to = c.saturating_add-2.ensures in
    let within = order.within in
    let few = numbers.ensures.few in
    let ordered = numbers.ensures.ordered in
    placed_is areas s spaces c.args.count c.args.begin c.args.reach laid sized counted order numbers.result
    (record { from = c.saturating_add.result; to = c.saturating_add-2.result })
    numbers.ensures.within numbers.ensures.all few ordered
    (omega (arith, from, within, few, ordered, small)) (omega (arith, to, within, few, small))
