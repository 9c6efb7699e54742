use Rattle.std.proofs.Common.{◌+◌, ap, arith}
use Rattle.cs_gen.proofs.Walks.{begins_before, HasPassed-more, HasReached-here}
use Rattle.cs_gen.proofs.segments.reached.Goals as goal

pub overflow_add-end : goal.overflow_add-end
overflow_add-end c =
    let early = begins_before c.args.args.now c.args.j c.loop-walk.walk.segment c.loop-walk.walk.begin
    c.loop-walk.invariant in
    let near = c.requires.near in
    let short = c.length_of.ensures.bounded in record { fits = omega arith }

pub returns-then-j-end : goal.returns-then-j-end
returns-then-j-end c = HasReached-here c.args.args.now c.args.j c.loop-walk.walk.segment c.loop-walk.walk.begin _
    c.loop-walk.invariant (ap (λ n. c.loop-walk.walk.begin + n) c.length_of.ensures.value) c.if-j-end.true

pub loop-walk-preserved : goal.loop-walk-preserved
loop-walk-preserved c = HasPassed-more c.args.args.now c.args.j c.loop-walk.walk.segment c.loop-walk.walk.begin _
    c.loop-walk.invariant (omega arith) (ap (λ n. c.loop-walk.walk.begin + n) c.length_of.ensures.value)
    c.if-j-end.false
