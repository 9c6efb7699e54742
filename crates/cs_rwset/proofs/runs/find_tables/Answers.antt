use Rattle.std.proofs.Common.{arith}
use Rattle.cs_ir.specs.declared.op.Reach.TheVariants as reach
use Rattle.cs_ir.specs.declared.touches.Touch.TheVariants as touch
use Rattle.cs_ir.specs.Touched.{covers}
use Rattle.cs_rwset.proofs.Spans.{no_run}
use Rattle.cs_rwset.proofs.runs.find_tables.Goals as goal

pub returns-else-next_place-len : goal.returns-else-next_place-len
returns-else-next_place-len c =
    let from = c.next_place-from in
    let to = c.next_place-to in
    let next = c.next_place in
    let onward = next.ensures.within in
    let last = onward.1 in (
      tt,
      no_run c.args.layout.now (covers c.args.spaces (touch.Tables reach.Any)) from.result to.result next.result
          from.ensures.here to.ensures.here next.ensures.here to.ensures.within.0 onward.0
          (omega (arith, last, c.if-next_place-len.false, c.len.ensures)),
    )
