use Rattle.std.proofs.Common.{◌∙◌, subst, sym}
use Rattle.std.specs.Arc.{arc_value}
use Rattle.cs_board.specs.Board.{plan, name, view, IsSeatOf}
use Rattle.cs_pool.proofs.Seats.{joined_done, leads_joined}
use Rattle.cs_pool.proofs.cycle.take_in.Goals as goal

pub await_seat-seat-requires : goal.await_seat-seat-requires
await_seat-seat-requires g c =
    let a = c.requires.away.1 in record { board = arc_value c.args.board.now; seat = a.seat; out = a.lent }

pub join-requires : goal.join-requires
join-requires g c =
    let a = c.requires.away.1 in
    let through = c.await_seat-seat.ensures.seat (arc_value c.args.board.now) a.seat a.lent in
    record {
      seat = subst (λ b. IsSeatOf g.J.Job.means (plan b) (name b) c.args.first.now) (sym c.deref.ensures)
          c.requires.done.of;
      first = c.requires.first;
      other = subst (λ b. IsSeatOf g.J.Job.means (plan b) (name b) c.await_seat-seat.result.seat) (sym c.deref.ensures)
          through.done.of;
      later = through.seat.first ∙ a.later;
      idle = through.done.idle;
      owes = through.done.owes;
    }

pub returns : goal.returns
returns g c =
    let board = arc_value c.args.board.now in
    let seat = c.await_seat-seat.ensures.seat board in
    record {
      idle = c.await_seat-seat.ensures.home;
      done = joined_done g.J.Job.means board c.args.first.now c.join.new.seat (view c.await_seat-seat.result.seat)
          c.requires.done
          (subst (λ b. IsSeatOf g.J.Job.means (plan b) (name b) c.join.new.seat) c.deref.ensures c.join.ensures.seat)
          c.join.ensures.view;
      leads = λ n a leads.
          leads_joined n (view c.args.first.now) (view c.await_seat-seat.result.seat) (view c.join.new.seat) leads
          ((seat a.seat a.lent).seat.number ∙ a.number) c.join.ensures.view;
      served = c.await_seat-seat.ensures.served;
      given = c.await_seat-seat.ensures.given;
    }
