use Rattle.std.proofs.Common.{◌+◌, ap, ◌∙◌}
use Rattle.cs_board.specs.Views.{closing_from}
use Rattle.cs_board.proofs.Finishing.{beside_shut, beside_join}
use Rattle.cs_board.proofs.board.Board.close_one.Goals as goal

pub returns-then-move_on : goal.returns-then-move_on
returns-then-move_on g c =
    let e = c.move_on.ensures in
    let me = c.close_edge.ensures.me in
    record {
      sitting = e.sitting;
      carries = e.carries ∙ ap (λ z. z.1) me;
      moving = e.moving;
      closing = e.closing ∙ ap (λ z. z.0.closing) me
          ∙ ap (λ k. closing_from k.edges c.args.note (c.args.edge + 1)) c.requires.sitting.knows.plan;
      beside = beside_join _ _ _ (beside_shut c.args.sitting.now.me.0 _ c.args.edge c.args.note _ _ (ap (λ z. z.0) me))
          e.beside;
    }
