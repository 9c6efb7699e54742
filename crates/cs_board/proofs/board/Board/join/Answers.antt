use Rattle.std.proofs.Common.{◌≡◌, sym, ap, ◌∙◌, arith, refl}
use Rattle.cs_board.specs.{Board.plan, Board.view, Board.first_of, Views.joined}
use Rattle.cs_board.proofs.{Kept.joins, Calls.may_rise}
use Rattle.cs_board.proofs.board.Board.join.Goals as goal

pub join_seat-requires : goal.join_seat-requires
join_seat-requires g c =
    let p = c.sit-sitting.ensures.sitting in
    let u = c.into_seat.result.me.0 in
    let is : view c.args.other ≡ u = ap first_of c.into_seat.ensures.2 in (
      p.table,
      c.into_seat.ensures.0 ∙ c.requires.other.table,
      c.into_seat.ensures.3,
      omega (arith, c.args.self.now.built.words),
      joins g.J.Job.means (plan c.args.self.now) c.sit-sitting.result.id c.sit-sitting.result.me.0 c.into_seat.result.id
          u (ap (λ z. z.0.first) c.sit-sitting.ensures.me ∙ c.requires.first) p.knows.live p.knows.playing p.knows.plan
          (ap (λ z. z.spent) (sym is) ∙ c.requires.other.knows.live)
          (ap (λ z. z.doing) (sym is) ∙ c.requires.idle.doing) (ap (λ z. z.closing) (sym is) ∙ c.requires.idle.closing)
          (ap (λ z. z.moving) (sym is) ∙ c.requires.idle.moving) (ap (λ z. z.owes) (sym is) ∙ c.requires.owes),
    )

pub into_seat-requires : goal.into_seat-requires
into_seat-requires g c = (view c.args.other, c.requires.other.one)

pub rise-requires : goal.rise-requires
rise-requires g c =
    let p = c.sit-sitting.ensures in
    let h = p.sitting.knows in
    let s = c.sit-sitting.result in
    let r = may_rise g.J.Job.means c.args.self.now c.args.seat.now c.sit-sitting.new.seat s c.join_seat.new.seat
    (joined s.me.0 c.into_seat.result.me.0) c.requires.seat p.sitting p.me p.room p.note c.join_seat.ensures.0
    c.join_seat.ensures.2
    (record { plan = h.plan; live = h.live; owes_in = h.owes_in; playing = h.playing }) refl refl in
    record { sitting = r.0; carries = r.1; note = r.2; room = r.3 }

pub returns-clause-view : goal.returns-clause-view
returns-clause-view g c = c.rise.ensures.view ∙ ap (λ z. z.0) c.join_seat.ensures.2
    ∙ ap (λ z. joined z.0 c.into_seat.result.me.0) c.sit-sitting.ensures.me
    ∙ ap (joined (view c.args.seat.now)) (sym (ap first_of c.into_seat.ensures.2))
