use Rattle.std.proofs.Common.{◌≡◌, ◌∷◌, Some, refl, sym, subst, arith, slice_get}
use Rattle.cs_board.specs.{Board.plan, inner.Sittings.job_out, Views.does, Views.fresh}
use Rattle.cs_board.proofs.{Stepping.place_after, Stepping.view_does, Stepping.job_there, Kept.takes_job}
use Rattle.cs_board.specs.declared.view.Berth.TheVariants.{Full}
use Rattle.cs_board.proofs.board.Board.reach_job.Goals as goal

pub load-requires : goal.load-requires
load-requires g c = let j =
    job_there (plan c.args.self.now).jobs c.args.note
    (omega (arith, c.requires.note, c.requires.sitting.whole.jobs)) in (
      c.requires.sitting.table,
      omega (arith, c.args.self.now.built.words, c.args.self.now.built.notes),
      takes_job g.J.Job.means (plan c.args.self.now) g.met.J.Job.frames
          c.args.self.now.frame.table.shared.table_id.slots
          c.args.sitting.now.id c.args.sitting.now.me c.requires.sitting.knows.plan c.requires.sitting.knows.live
          c.requires.sitting.knows.playing (fresh g.J.Job.means (plan c.args.self.now) c.args.note) c.requires.doing j.0
          refl refl j.1,
    )

pub returns-clause-me : goal.returns-clause-me
returns-clause-me g c =
    let j = job_there (plan c.args.self.now).jobs c.args.note
    (omega (arith, c.requires.note, c.requires.sitting.whole.jobs)) in (
      j.0,
      j.1,
      c.load.ensures.2 (fresh g.J.Job.means (plan c.args.self.now) c.args.note) j.0 c.requires.doing
          (subst (λ z. slice_get z.jobs c.args.note ≡ Some j.0) (sym c.requires.sitting.knows.plan) j.1) refl,
    )

pub returns-clause-sitting : goal.returns-clause-sitting
returns-clause-sitting g c =
    let d = job_out (fresh g.J.Job.means (plan c.args.self.now) c.args.note) in
    let me = returns-clause-me g c in
    place_after g.J.Job.means c.args.self.now c.args.sitting.now c.load.new.seat (does c.args.sitting.now.me.0 d)
    ((c.args.note, Full me.0) ∷ c.args.sitting.now.me.1) c.requires.sitting c.load.ensures.0 me.2
    (view_does (plan c.args.self.now) c.args.sitting.now.me.0 d c.requires.sitting.knows)
