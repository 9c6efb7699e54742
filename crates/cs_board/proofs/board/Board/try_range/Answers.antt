use Rattle.std.proofs.Common.{◌≡◌, ◌+◌, false, sym, ap, ◌∙◌, subst, arith}
use Rattle.cs_board.specs.{Board.plan, Board.IsIdle, Views.missed}
use Rattle.cs_board.specs.inner.Sittings.{HasClaimed, Tries, AllTried, tried}
use Rattle.cs_board.proofs.{Trying.tries_more, Trying.all_more, Trying.idle_missed, Calls.began_has}
use Rattle.cs_board.proofs.board.Board.try_range.Goals as goal

pub returns-then-try_note-clause-tries : goal.returns-then-try_note-clause-tries
returns-then-try_note-clause-tries g c =
    subst (Tries c.args.sitting.now.me.0) (sym (ap (λ z. z.0) c.try_note.ensures.me))
    (tries_more g.J.Job.means c.args.sitting.now.me.0 c.loop-note.sitting.me.0 c.try_note.result c.loop-note.note
    c.loop-note.invariant.tries)

pub loop-note-preserved : goal.loop-note-preserved
loop-note-preserved g c =
    let u = c.args.sitting.now.me.0 in
    let v = c.loop-note.sitting.me.0 in
    let i = c.loop-note.invariant in
    let is : c.try_note.new.sitting.me.0 ≡ missed v c.loop-note.note =
    ap (λ z. z.0) c.try_note.ensures.me ∙ ap (λ b. tried g.J.Job.means b v c.loop-note.note) c.if-try_note.false in
    record {
      sitting = c.try_note.ensures.sitting;
      carries = ap (λ z. z.1) c.try_note.ensures.me ∙ i.carries;
      idle = subst IsIdle (sym is) (idle_missed g.J.Job.means v c.loop-note.note i.idle);
      tried = subst (λ w. AllTried u w c.args.from (c.loop-note.note + 1)) (sym is)
          (all_more g.J.Job.means u v c.args.from c.loop-note.note i.tries i.tried);
      tries = subst (Tries u) (sym is) (tries_more g.J.Job.means u v false c.loop-note.note i.tries);
      steps = omega (arith, c.tick.ensures, i.steps, ap (λ w. w.tries) is);
      few = omega (arith, c.tick.ensures, i.few);
    }

pub returns-clause-none : goal.returns-clause-none
returns-clause-none g c = (c.loop-note.invariant.idle, λ t low high. c.loop-note.invariant.tried t low (omega arith))

pub returns-then-try_note-clause-some : goal.returns-then-try_note-clause-some
returns-then-try_note-clause-some g c =
    let M = g.J.Job.means in
    let k = plan c.args.self.now in
    let n = c.loop-note.note in
    let s = c.loop-note.sitting.me in
    let i = c.loop-note.invariant in
    subst (λ z. HasClaimed M k z.0 n)
    (sym (c.try_note.ensures.me ∙ ap (λ b. (tried M b s.0 n, s.1)) c.if-try_note.true))
    (began_has M k s.0 n i.sitting.knows i.idle (omega (arith, c.loop-note-test.true, c.requires.range)))
