use Rattle.std.proofs.Common.{◌≡◌, ◌∙◌, ap, arith, subst, suc, sym}
use Rattle.std.specs.Arc.{arc_value}
use Rattle.cs_board.specs.Board.{plan, name, view, IsSeatOf}
use Rattle.cs_pool.proofs.Seats.{given_done, next_made, ready_kept, leads_kept}
use Rattle.cs_pool.specs.{Letters.one_given, inner.Lines.IsLent}
use Rattle.cs_pool.proofs.cycle.lend.Goals as goal

pub split-seat-requires : goal.split-seat-requires
split-seat-requires g c = record {
  seat = subst (λ b. IsSeatOf g.J.Job.means (plan b) (name b) c.args.first.now) (sym c.deref.ensures)
      c.requires.ready.of;
  first = c.requires.leads.first;
}

pub give-requires : goal.give-requires
give-requires g c = record {
  idle = c.part_in.ensures.idle;
  task = given_done g.J.Job.means (arc_value c.in-Ok.part) c.split-seat.result (view c.args.first.now)
      (subst (λ b. IsSeatOf g.J.Job.means (plan b) (name b) c.split-seat.result)
      (c.deref.ensures ∙ sym c.in-Ok.ensures.share) c.split-seat.ensures.other) c.split-seat.ensures.new;
}

pub returns-in_default : goal.returns-in_default
returns-in_default g c = record {
  few = omega arith;
  away = λ some. absurd (omega (arith, some));
  home = λ none. c.part_in.ensures.idle;
  ready = c.requires.ready;
  leads = c.requires.leads;
  made = omega arith;
  given = ap (λ n. n.given) c.part_in.ensures.tasks ∙ omega arith;
  served = ap (λ n. n.served) c.part_in.ensures.tasks;
}

pub returns : goal.returns
returns g c =
    let of = subst (λ b. IsSeatOf g.J.Job.means (plan b) (name b) c.split-seat.new.seat) c.deref.ensures
    c.split-seat.ensures.seat in
    let before = view c.args.first.now in
    let after = view c.split-seat.new.seat in
    let tasks = c.give.ensures.tasks ∙ ap one_given c.part_in.ensures.tasks in
    let made : after.made ≡ suc before.made = next_made before after c.split-seat.ensures.view in record {
      few = omega arith;
      away = λ some. record {
        seat = c.split-seat.result;
        lent = subst (λ b. IsLent c.give.new.self b c.split-seat.result) c.in-Ok.ensures.share c.give.ensures.lent;
        later = ap (λ v. v.first) c.split-seat.ensures.new;
        number = ap (λ v. v.number) c.split-seat.ensures.new;
      };
      home = λ none. absurd (omega (arith, none));
      ready = ready_kept g.J.Job.means (arc_value c.args.board.now) c.args.first.now c.split-seat.new.seat
          c.requires.ready of c.split-seat.ensures.view;
      leads = leads_kept before after c.requires.leads c.split-seat.ensures.view;
      made = omega (arith, made);
      given = ap (λ n. n.given) tasks;
      served = ap (λ n. n.served) tasks;
    }
