use Rattle.std.proofs.Common.{◌+◌, drop, arith, subst}
use Rattle.std.proofs.lemmas.List.{drop_all}
use Rattle.cs_code.proofs.Closing.{Closing, closing_begins, closing_ends, closing_on}
use Rattle.cs_code.proofs.Lists.{dropped}
use Rattle.cs_code.proofs.jumps.aim_all.Goals as goal

pub loop-mark-init : goal.loop-mark-init
loop-mark-init c = λ places marked. closing_begins c.args.ops.now c.args.marks.now places marked

pub loop-mark-preserved : goal.loop-mark-preserved
loop-mark-preserved c = λ places marked.
    let i = c.loop-mark.mark-index in
    let m = c.mark-item.result in
    let start = c.args.ops.now in
    closing_on start c.loop-mark.ops c.aim.new.self m (drop (i + 1) c.args.marks.now) places
    (subst (λ l. Closing start c.loop-mark.ops l places) (dropped c.args.marks.now i m (omega arith) c.mark-item.is)
    (c.loop-mark.invariant places marked)) c.aim.ensures

pub returns : goal.returns
returns c = λ places marked.
    let none = drop_all c.loop-mark.mark-index c.args.marks.now (omega (arith, c.loop-mark-test.false)) in
    closing_ends c.args.ops.now c.loop-mark.ops places
    (subst (λ l. Closing c.args.ops.now c.loop-mark.ops l places) none (c.loop-mark.invariant places marked))
