use Rattle.std.proofs.Common.{◌≡◌, ◌<◌, ◌+◌, ◌∙◌, Some, ap, arith, false, length, refl, sym, subst}
use Rattle.cs_board.specs.{Board.plan, Board.view, Board.run_through, Plans.places_written, Plans.uses_of, Views.does}
use Rattle.cs_board.specs.{Plans.writes_of, inner.Sittings.deed, inner.Sittings.ran_out}
use Rattle.cs_board.proofs.board.Board.run.Goals.{After-put_job, After-rise}
use Rattle.cs_board.proofs.{board.Board.run.Given.Over, Calls.does_here, Calls.note_here, Calls.room_kept}
use Rattle.cs_board.specs.{Board.HasRun, Board.name, Board.note_of, Views.fresh}
use Rattle.cs_board.proofs.board.Board.run.Goals as goal

pub perform-requires-clause-doing : goal.perform-requires-clause-doing
perform-requires-clause-doing g c = ap (λ z. z.0.doing) c.take_job-job.ensures.me

pub look_turns-turns-requires-clause-foot : goal.look_turns-turns-requires-clause-foot
look_turns-turns-requires-clause-foot g c =
    let M = g.J.Job.means in
    ap (λ j. (M.foot j).uses) c.perform.ensures.job ∙ ap (λ f. f.uses) (g.met.J.Job.frames.foot_after _ _)
    ∙ sym (ap (uses_of M) c.take_job-job.ensures.job)

pub look_turns-turns-requires-clause-doing : goal.look_turns-turns-requires-clause-doing
look_turns-turns-requires-clause-doing g c = ap (λ z. z.0.doing) c.perform.ensures.me

pub turn_own-requires-clause-doing : goal.turn_own-requires-clause-doing
turn_own-requires-clause-doing g c = ap (λ z. z.0.doing) (c.look_turns-turns.ensures.me ∙ c.perform.ensures.me)

pub turn_all-requires-clause-foot : goal.turn_all-requires-clause-foot
turn_all-requires-clause-foot g c =
    let M = g.J.Job.means in
    ap (λ j. (M.foot j).writes) c.perform.ensures.job ∙ ap (λ f. f.writes) (g.met.J.Job.frames.foot_after _ _)
    ∙ sym (ap (writes_of M) c.take_job-job.ensures.job)

pub turn_all-requires-clause-doing : goal.turn_all-requires-clause-doing
turn_all-requires-clause-doing g c = ap (λ z. z.0.doing) c.turn_own.ensures.me

pub put_job-requires-clause-phase : goal.put_job-requires-clause-phase
put_job-requires-clause-phase g c = omega (arith, ap (λ z. (deed z.0).phase) c.turn_all.ensures.me)

pub put_job-requires-clause-doing : goal.put_job-requires-clause-doing
put_job-requires-clause-doing g c =
    ap (λ z. z.0.doing) c.turn_all.ensures.me
    ∙ sym (ap (λ z. Some (ran_out g.J.Job.means (plan c.args.self.now) c.args.seat.now.note (deed z.0).phase))
    c.turn_all.ensures.me)

pub put_job-requires-clause-carries : goal.put_job-requires-clause-carries
put_job-requires-clause-carries g c =
    ap (λ z. z.1) (c.turn_all.ensures.me) ∙ ap (λ z. z.1) (c.turn_own.ensures.me)
    ∙ ap (λ z. z.1) (c.look_turns-turns.ensures.me ∙ c.perform.ensures.me) ∙ ap (λ z. z.1) c.take_job-job.ensures.me

pub put_job-requires-clause-job : goal.put_job-requires-clause-job
put_job-requires-clause-job g c = (c.take_job-job.result, c.take_job-job.ensures.job, c.perform.ensures.job)

-- the view afterwards: the note has run, and everything else is as before
ran_in : (g : Over) (c : After-put_job g) → c.put_job.new.sitting.me.0
    ≡ does (view c.args.seat.now) (run_through g.J.Job.means (plan c.args.self.now) c.args.seat.now.note)
ran_in g c =
    let M = g.J.Job.means in
    let k = plan c.args.self.now in
    let n = c.args.seat.now.note in
    let performed = c.look_turns-turns.ensures.me ∙ c.perform.ensures.me
    ∙ ap (λ z. (does z.0 (ran_out M k n 0), z.1)) c.take_job-job.ensures.me in
    let turned = c.turn_all.ensures.me
    ∙ ap (λ z. (does z.0 (ran_out M k n (1 + length (places_written M k n))), z.1)) (c.turn_own.ensures.me
    ∙ ap (λ z. (does z.0 (ran_out M k n 1), z.1)) performed) in
    ap (λ z. z.0) c.put_job.ensures.me ∙ ap (λ z. does z.0 (record (deed z.0) { held = false })) turned
    ∙ ap (λ z. does z.0 (run_through M k n)) c.sit-sitting.ensures.me

ran : (g : Over) (c : After-rise g) → view c.rise.new.seat
    ≡ does (view c.args.seat.now) (run_through g.J.Job.means (plan c.args.self.now) c.args.seat.now.note)
ran g c = c.rise.ensures.view ∙ ran_in g (goal.at.returns-clause-tries g c).After-put_job

pub returns-clause-tries : goal.returns-clause-tries
returns-clause-tries g c = (ap (λ v. v.tries) (ran g c), ap (λ v. v.found) (ran g c))

pub returns-clause-owes : goal.returns-clause-owes
returns-clause-owes g c = (ap (λ v. v.owes) (ran g c), ap (λ v. v.mine) (ran g c))

pub returns-clause-same : goal.returns-clause-same
returns-clause-same g c = record {
  first = ap (λ v. v.first) (ran g c);
  number = ap (λ v. v.number) (ran g c);
  out = ap (λ v. v.out) (ran g c);
  made = ap (λ v. v.made) (ran g c);
}

pub take_job-job-requires : goal.take_job-job-requires
take_job-job-requires g c =
    let M = g.J.Job.means in
    let k = plan c.args.self.now in
    let p = c.sit-sitting.ensures in
    let h = does_here M k (λ z t. fresh M z t) (λ z t. refl) (name c.args.self.now) c.args.seat.now c.requires.seat
    c.requires.claimed.doing in
    record {
      sitting = p.sitting;
      note = h.1;
      doing = ap (λ z. z.0.doing) p.me ∙ h.0;
      carries = ap (λ z. z.1) p.me;
    }

pub rise-requires : goal.rise-requires
rise-requires g c =
    let M = g.J.Job.means in
    let k = plan c.args.self.now in
    let v = view c.args.seat.now in
    let p = c.sit-sitting.ensures in
    let is = ran_in g (goal.at.rise-requires g c).After-put_job in
    let n = c.requires.seat.note (fresh M v.plan (note_of v)) c.requires.claimed.doing in
    record {
      sitting = c.put_job.ensures.sitting;
      carries = ap (λ z. z.1) c.put_job.ensures.me;
      note = note_here c.put_job.new.sitting.me.0.doing (run_through M k c.args.seat.now.note)
          c.sit-sitting.new.seat.note k.notes (ap (λ z. z.doing) is) (sym p.note)
          (subst (λ z. z < k.notes) (n.0 ∙ sym p.note) n.1);
      room = room_kept k v c.put_job.new.sitting.me.0 c.sit-sitting.new.seat p.room (ap (λ z. z.first) is);
    }

pub returns-clause-ran : goal.returns-clause-ran
returns-clause-ran g c = let M = g.J.Job.means in subst (HasRun M) (sym (ran g c)) (record {
  doing = sym (λ i. Some (run_through M (c.requires.seat.knows.plan i) c.args.seat.now.note));
  closing = c.requires.claimed.closing;
  moving = c.requires.claimed.moving;
})

pub returns-clause-note : goal.returns-clause-note
returns-clause-note g c =
    let v = view c.args.seat.now in
    ap (λ z. note_of z) (ran g c)
    ∙ sym (c.requires.seat.note (fresh g.J.Job.means v.plan (note_of v)) c.requires.claimed.doing).0
