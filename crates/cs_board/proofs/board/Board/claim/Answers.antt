use Rattle.std.proofs.Common.{◌≡◌, ◌<◌, ℕ, [], sym, ap, ◌∙◌, subst, arith, IfSome}
use Rattle.cs_board.specs.{Board.plan, Board.view, Board.IsIdle, Board.FoundSince, inner.Sittings.AllTried}
use Rattle.cs_board.proofs.{Trying.if_none_map, Trying.owes_none, Calls.note_won, Calls.won_claimed, Calls.room_kept}
use Rattle.cs_board.specs.Board.{IsClaimed, SameSeat, HasRoom, note_of}
use Rattle.cs_board.proofs.board.Board.claim.Goals as goal

pub returns-clause-none : goal.returns-clause-none
returns-clause-none g c =
    let u = c.sit-sitting.result.me.0 in
    let w = c.try_round-won.new.sitting.me.0 in
    let v = view c.rise.new.seat in
    let is : v ≡ w = c.rise.ensures.view in
    let was : u ≡ view c.args.seat.now = ap (λ z. z.0) c.sit-sitting.ensures.me in
    if_none_map c.try_round-won.result (IsIdle w × AllTried u w 0 (plan c.args.self.now).notes)
    (IsIdle v × (v.owes ≡ [])
    × ((t : ℕ) → t < (plan c.args.self.now).notes → FoundSince (view c.args.seat.now).tries v t))
    (λ h. (
      subst IsIdle (sym is) h.0,
      ap (λ z. z.owes) is ∙ owes_none (plan c.args.self.now) w c.try_round-won.ensures.sitting.knows
          (λ t l. (h.1 t (omega arith) l).1),
      λ t l. subst (λ z. FoundSince (view c.args.seat.now).tries z t) (sym is)
          (subst (λ z. FoundSince z.tries w t) was (h.1 t (omega arith) l).0),
    ))
    c.try_round-won.ensures.none

pub try_round-won-requires-clause-idle : goal.try_round-won-requires-clause-idle
try_round-won-requires-clause-idle g c = subst (λ z. IsIdle z.0) (sym c.sit-sitting.ensures.me) c.requires.idle

pub rise-requires : goal.rise-requires
rise-requires g c =
    let k = plan c.args.self.now in
    let p = c.sit-sitting.ensures in
    let w = c.try_round-won.new.sitting.me.0 in
    let won = c.try_round-won.ensures in
    record {
      sitting = won.sitting;
      carries = won.carries ∙ ap (λ z. z.1) p.me;
      note = note_won g.J.Job.means k c.try_round-won.result w c.remember.new.self.note
          (AllTried c.sit-sitting.result.me.0 w 0 k.notes) won.some won.none c.remember.ensures.note;
      room = subst (λ o. HasRoom k w (record c.sit-sitting.new.seat { room = o })) (sym c.remember.ensures.room)
          (room_kept k (view c.args.seat.now) w c.sit-sitting.new.seat p.room
          (won.tries.seat.first ∙ ap (λ z. z.0.first) p.me));
    }

pub returns-clause-some : goal.returns-clause-some
returns-clause-some g c =
    let M = g.J.Job.means in
    let k = plan c.args.self.now in
    let won = c.try_round-won in
    subst (λ v. IfSome won.result (λ t. IsClaimed M v × (note_of v ≡ t) × (t < k.notes))) (sym c.rise.ensures.view)
    (won_claimed M k won.result won.new.sitting.me.0 won.ensures.sitting.knows.plan won.ensures.some)

pub returns-clause-tries : goal.returns-clause-tries
returns-clause-tries g c =
    let seen = ap (λ v. v.tries) c.rise.ensures.view in
    let was = ap (λ z. z.0.tries) c.sit-sitting.ensures.me in
    omega (arith, c.try_round-won.ensures.steps)

pub returns-clause-mine : goal.returns-clause-mine
returns-clause-mine g c = ap (λ v. v.mine) c.rise.ensures.view ∙ c.try_round-won.ensures.tries.mine
    ∙ ap (λ z. z.0.mine) c.sit-sitting.ensures.me

pub returns-clause-same : goal.returns-clause-same
returns-clause-same g c = subst (SameSeat (view c.args.seat.now)) (sym c.rise.ensures.view)
    (subst (λ z. SameSeat z.0 c.try_round-won.new.sitting.me.0) c.sit-sitting.ensures.me
    c.try_round-won.ensures.tries.seat)
