use Rattle.cs_board.proofs.Trying.{same_seat}
use Rattle.cs_pool.proofs.worker.work.Goals as goal

pub await_claim-requires : goal.await_claim-requires
await_claim-requires g c = record { seat = c.loop.invariant.2.of; idle = c.loop.invariant.2.idle }

pub run-requires : goal.run-requires
run-requires g c = record { seat = c.await_claim.ensures.seat; claimed = c.in-Some-await_claim.ensures.some.0 }

pub finish-requires : goal.finish-requires
finish-requires g c = record { seat = c.run.ensures.seat; ran = c.run.ensures.ran }

pub returns-in_default : goal.returns-in_default
returns-in_default g c = record {
  done = record {
    of = c.await_claim.ensures.seat;
    idle = c.in_default.ensures.none.0;
    owes = c.in_default.ensures.none.1;
  };
  seat = same_seat _ _ _ c.loop.invariant.3 c.await_claim.ensures.same;
}
