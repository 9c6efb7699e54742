use Rattle.std.proofs.Common.{◌++◌, ◌+◌, drop, ap, sym, ◌∙◌}
use Rattle.cs_tempo.specs.inner.Turns.{turns_from}
use Rattle.cs_tempo.proofs.Orders.{turn_more, turn_none}
use Rattle.cs_tempo.proofs.order.turns_of.Goals as goal

pub loop-index-preserved : goal.loop-index-preserved
loop-index-preserved c =
    ap (λ ts. ts ++ turns_from (c.loop-index.index + 1) (drop (c.loop-index.index + 1) c.args.section.now))
    c.in_ok-push_turn.ensures
    ∙ turn_more c.args.section.now c.loop-index.index c.index-section-index.result c.loop-index.turns.items
    c.loop-index-test.true c.index-section-index.is ∙ c.loop-index.invariant

pub returns : goal.returns
returns c = sym (turn_none c.args.section.now c.loop-index.index c.loop-index.turns.items c.loop-index-test.false)
    ∙ c.loop-index.invariant
