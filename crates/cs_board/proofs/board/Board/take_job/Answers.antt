use Rattle.std.proofs.Common.{◌∷◌, sym, ap, ◌∙◌}
use Rattle.cs_board.specs.declared.view.Berth.TheVariants.{Full}
use Rattle.atomic_table.specs.Table.{rest}
use Rattle.cs_board.proofs.board.Board.take_job.Goals as goal

pub exchange-held-requires : goal.exchange-held-requires
exchange-held-requires g c =
    let j = c.reach_job.ensures.me in
    let e = ap (λ z. z.1) j.2 in
    (c.reach_job.ensures.sitting.table, (Full j.0, e ∙ ap (λ r. (c.args.note, Full j.0) ∷ r) (sym (ap rest e))))
