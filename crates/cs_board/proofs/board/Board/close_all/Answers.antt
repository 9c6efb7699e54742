use Rattle.std.proofs.Common.{◌≡◌, ◌+◌, ◌∙◌, None, MatchOption, refl, subst, sym}
use Rattle.cs_board.specs.{Board.plan, inner.Sittings.ClosesAt}
use Rattle.cs_board.proofs.Finishing.{closing_next, beside_same, beside_join}
use Rattle.cs_board.proofs.board.Board.close_all.Goals as goal

pub loop-next-init : goal.loop-next-init
loop-next-init g c = record {
  sitting = c.requires.sitting;
  carries = refl;
  moving = c.requires.moving;
  closing = closing_next (plan c.args.self.now) c.args.sitting.now.me.0 c.graph.result.now.edges c.args.note 0
      c.first_out-next.result (sym c.graph.ensures.edges) c.requires.closing c.first_out-next.ensures.none
      c.first_out-next.ensures.some;
  beside = beside_same c.args.sitting.now.me.0;
}

pub loop-next-preserved : goal.loop-next-preserved
loop-next-preserved g c =
    let i = c.loop-next.invariant in
    let done = c.close_one-watcher.ensures in
    record {
      sitting = done.sitting;
      carries = done.carries ∙ i.carries;
      moving = done.moving;
      closing = closing_next (plan c.args.self.now) c.close_one-watcher.new.sitting.me.0
          c.graph-in-Some.result.now.edges c.args.note (c.in-Some.edge + 1) c.next_out-next.result
          (sym c.graph-in-Some.ensures.edges) done.closing c.next_out-next.ensures.none c.next_out-next.ensures.some;
      beside = beside_join _ _ _ i.beside done.beside;
    }

pub close_one-watcher-requires-clause-closing : goal.close_one-watcher-requires-clause-closing
close_one-watcher-requires-clause-closing g c = let v = c.loop-next.sitting.me.0 in
    subst (λ o. MatchOption o (v.closing ≡ None) (ClosesAt (plan c.args.self.now) v c.args.note)) c.in-Some.is
    c.loop-next.invariant.closing

pub returns-clause-closing : goal.returns-clause-closing
returns-clause-closing g c = let v = c.loop-next.sitting.me.0 in
    subst (λ o. MatchOption o (v.closing ≡ None) (ClosesAt (plan c.args.self.now) v c.args.note)) c.in_default.is
    c.loop-next.invariant.closing
