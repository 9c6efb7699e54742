use Rattle.std.proofs.Common.{rules, refl, sym, ap, ◌∙◌, subst}
use Rattle.cs_board.specs.Board.{plan, name, view, run_through, IsIdle}
use Rattle.cs_board.proofs.Calls.{does_here, none_here, room_kept}
use Rattle.cs_board.proofs.board.Board.finish.Goals as goal

pub close_all-opened-requires-clause-closing : goal.close_all-opened-requires-clause-closing
close_all-opened-requires-clause-closing g c = search rules

pub store_done-requires : goal.store_done-requires
store_done-requires g c =
    let M = g.J.Job.means in
    let p = c.sit-sitting.ensures in
    let h = does_here M (plan c.args.self.now) (λ z t. run_through M z t) (λ z t. refl) (name c.args.self.now)
    c.args.seat.now c.requires.seat c.requires.ran.doing in
    record { sitting = p.sitting; note = h.1; doing = ap (λ z. z.0.doing) p.me ∙ h.0 }

pub rise-requires : goal.rise-requires
rise-requires g c =
    let k = plan c.args.self.now in
    let p = c.sit-sitting.ensures in
    let e = c.close_all-opened.ensures in
    let w = c.close_all-opened.new.sitting.me.0 in
    let was = ap (λ z. z.0) c.store_done.ensures.me in
    record {
      sitting = e.sitting;
      carries = e.carries ∙ ap (λ z. z.1) c.store_done.ensures.me ∙ ap (λ z. z.1) p.me;
      note = none_here w.doing _ k.notes (e.beside.doing ∙ ap (λ v. v.doing) was);
      room = room_kept k (view c.args.seat.now) w c.sit-sitting.new.seat p.room
          (e.beside.seat.first ∙ ap (λ v. v.first) was ∙ ap (λ z. z.0.first) p.me);
    }

pub returns-clause-idle : goal.returns-clause-idle
returns-clause-idle g c = let e = c.close_all-opened.ensures in subst IsIdle (sym c.rise.ensures.view) (record {
  doing = e.beside.doing ∙ ap (λ z. z.0.doing) c.store_done.ensures.me;
  closing = e.closing;
  moving = e.moving;
})
