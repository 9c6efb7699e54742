use Rattle.std.proofs.Common.{◌≡◌, ◌<◌, ℕ, [], sym, ◌∙◌, arith}
use Rattle.cs_board.specs.{Board.plan, Board.view, Board.IsIdle, Board.FoundSince}
use Rattle.cs_board.proofs.Trying.{at_none, not_none, same_seat}
use Rattle.cs_board.proofs.board.Board.await_claim.Goals as goal

pub loop-look-init : goal.loop-look-init
loop-look-init g c =
    let u = view c.args.seat.now in
    let w = view c.claim-won.new.seat in
    let h = at_none c.claim-won.result
    (IsIdle w × (w.owes ≡ []) × ((t : ℕ) → t < (plan c.args.self.now).notes → FoundSince u.tries w t))
    (sym c.is_some.ensures ∙ c.if-is_some.false) c.claim-won.ensures.none in
    record {
      of = c.claim-won.ensures.seat;
      tried = record {
        idle = h.0;
        owes = h.1;
        more = omega (arith, c.claim-won.ensures.tries, c.new.ensures);
        tried = h.2;
        mine = c.claim-won.ensures.mine;
        same = c.claim-won.ensures.same;
      };
    }

pub returns-then-is_some : goal.returns-then-is_some
returns-then-is_some g c = record {
  seat = c.claim-won.ensures.seat;
  some = c.claim-won.ensures.some;
  none = c.claim-won.ensures.none;
  mine = c.claim-won.ensures.mine;
  same = c.claim-won.ensures.same;
}

pub returns-then-eq : goal.returns-then-eq
returns-then-eq g c = let i = c.loop-look.invariant in record {
  seat = i.of;
  some = tt;
  none = (i.tried.idle, i.tried.owes, i.tried.tried);
  mine = i.tried.mine;
  same = i.tried.same;
}

pub returns-then-is_some-2 : goal.returns-then-is_some-2
returns-then-is_some-2 g c =
    let i = c.loop-look.invariant in
    let won = c.claim_seen-won in
    record {
      seat = won.ensures.seat;
      some = won.ensures.some;
      none = not_none won.result _ (sym c.is_some-in-loop-look.ensures ∙ c.if-is_some-2.true);
      mine = won.ensures.mine ∙ i.tried.mine;
      same = same_seat _ _ _ i.tried.same won.ensures.same;
    }

pub loop-look-preserved : goal.loop-look-preserved
loop-look-preserved g c =
    let won = c.claim_seen-won in
    record {
      of = won.ensures.seat;
      tried = at_none won.result _ (sym c.is_some-in-loop-look.ensures ∙ c.if-is_some-2.false) won.ensures.none _
          c.loop-look.invariant.tried;
    }

pub returns : goal.returns
returns g c = let i = c.loop-look.invariant in record {
  seat = i.of;
  some = tt;
  none = (i.tried.idle, i.tried.owes, i.tried.tried);
  mine = i.tried.mine;
  same = i.tried.same;
}
