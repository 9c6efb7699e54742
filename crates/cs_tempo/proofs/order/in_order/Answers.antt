use Rattle.std.proofs.Common.{◌<◌, length, map, get_or, ap, ◌∙◌, refl, pos}
use Rattle.std.proofs.lemmas.List.{take_all, get_or_read}
use Rattle.cs_score.specs.{declared.statement.ScoreStmt.ScoreStmt, declared.statement.ScoreWhat.TheVariants.Section}
use Rattle.cs_tempo.specs.declared.order.SortKey.{SortKey}
use Rattle.cs_tempo.proofs.Orders.{taken_more, order_is}
use Rattle.cs_tempo.proofs.order.in_order.Goals as goal

pub loop-turn-init : goal.loop-turn-init
loop-turn-init c = λ d. ap (map (λ s. s.now)) c.new-order.ensures.items

pub loop-turn-preserved : goal.loop-turn-preserved
loop-turn-preserved c = λ d.
    let zero_turn : SortKey = record { at = 0; p1 = pos 0; p3 = pos 0; index = 0 } in
    let some = rw c.deref-turn-items.ensures.value at c.loop-turn-test.true in
    let within : (get_or c.deref-turn-items.result.now c.loop-turn.turn-index zero_turn).index
    < length c.args.section.now =
    rw c.deref-turn-items.ensures.value (c.in_ok-turns.ensures.within c.loop-turn.turn-index zero_turn some) in
    ap (map (λ s. s.now)) c.in_ok-push.ensures.items
    ∙ taken_more (λ s. s.now) (λ (t : SortKey). get_or c.args.section.now t.index d) c.loop-turn.order.items _
    c.deref-turn-items.result.now c.loop-turn.turn-index zero_turn c.loop-turn-test.true
    (get_or_read c.args.section.now _ c.index-section-turn.result within c.index-section-turn.is d)
    (c.loop-turn.invariant d)

pub returns : goal.returns
returns c =
    let d : ScoreStmt = record { line = 0; what = Section } in
    let f : SortKey → ScoreStmt = λ t. get_or c.args.section.now t.index d in
    c.loop-turn.invariant d ∙ ap (map f)
    (take_all c.loop-turn.turn-index c.deref-turn-items.result.now c.loop-turn-test.false
    ∙ c.deref-turn-items.ensures.value ∙ c.in_ok-turns.ensures.sorted)
    ∙ order_is c.args.section.now d 0 c.args.section.now refl
