use Rattle.std.proofs.Common.{ap, ◌∙◌, arith, sym, refl}
use Rattle.cs_board.specs.{Board.plan, Views.kept_view}
use Rattle.cs_board.proofs.{Kept.splits, Calls.may_rise}
use Rattle.cs_board.proofs.board.Board.split.Goals as goal

pub split_seat-other-requires : goal.split_seat-other-requires
split_seat-other-requires g c =
    let p = c.sit-sitting.ensures.sitting in (
      p.table,
      omega (arith, c.args.self.now.built.words),
      splits g.J.Job.means (plan c.args.self.now) c.sit-sitting.result.id c.sit-sitting.result.me.0
          (ap (λ z. z.0.first) c.sit-sitting.ensures.me ∙ c.requires.first) p.knows.live p.knows.playing p.knows.plan,
    )

pub rise-requires : goal.rise-requires
rise-requires g c =
    let p = c.sit-sitting.ensures in
    let h = p.sitting.knows in
    let r = may_rise g.J.Job.means c.args.self.now c.args.seat.now c.sit-sitting.new.seat c.sit-sitting.result
    c.split_seat-other.new.seat (kept_view c.sit-sitting.result.me.0) c.requires.seat p.sitting p.me p.room p.note
    c.split_seat-other.ensures.0 c.split_seat-other.ensures.2
    (record { plan = h.plan; live = h.live; owes_in = h.owes_in; playing = h.playing }) refl refl in
    record { sitting = r.0; carries = r.1; note = r.2; room = r.3 }
