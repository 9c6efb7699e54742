use Rattle.std.proofs.Common.{◌≡◌, ◌<◌, ℕ, [], arith}
use Rattle.cs_board.specs.{Board.plan, Board.view, Board.IsIdle, Board.FoundSince, inner.Sittings.HasTried}
use Rattle.cs_board.specs.declared.view.View.{View}
use Rattle.cs_board.proofs.Trying.{if_none_map, tried_again}
use Rattle.cs_board.proofs.board.Board.claim_seen.Goals as goal

pub returns-then-eq-clause-none : goal.returns-then-eq-clause-none
returns-then-eq-clause-none g c =
    let k = plan c.args.self.now in
    let u = view c.args.seat.now in
    let w = view c.claim.new.seat in
    if_none_map c.claim.result (IsIdle w × (w.owes ≡ []) × ((t : ℕ) → t < k.notes → FoundSince u.tries w t))
    ((v : View g.row.J.Denot) → HasTried k v u → HasTried k v w)
    (λ h v before. tried_again k v u w before (record {
      idle = h.0;
      owes = h.1;
      more = omega (arith, c.claim.ensures.tries, c.new.ensures);
      tried = h.2;
      mine = c.claim.ensures.mine;
      same = c.claim.ensures.same;
    })) c.claim.ensures.none
