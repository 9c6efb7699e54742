use Rattle.cs_pool.proofs.Found.{looked_again}
use Rattle.cs_pool.proofs.line.Line.await_seat.Goals as goal

pub returns-in-Some : goal.returns-in-Some
returns-in-Some g c =
    let l = c.in-Some.ensures.looked in
    record { home = l.home; seat = l.some; served = l.counted.0; given = l.counted.1 }

pub returns-in-Some-collect : goal.returns-in-Some-collect
returns-in-Some-collect g c =
    let l = looked_again c.loop.invariant.3 c.in-Some-collect.ensures.looked in
    record { home = l.home; seat = l.some; served = l.counted.0; given = l.counted.1 }

pub loop-preserved : goal.loop-preserved
loop-preserved g c = (
  tt,
  tt,
  c.in_default-collect.ensures.busy,
  looked_again c.loop.invariant.3 c.in_default-collect.ensures.looked,
)
