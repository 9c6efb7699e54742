use Rattle.std.proofs.Common.{◌≡◌, ◌≤◌, ◌∷◌, [], Some, false, sym, ap, ◌∙◌, subst}
use Rattle.atomic_table.specs.Table.{rest}
use Rattle.cs_board.specs.declared.view.Berth.TheVariants.{Vacant, Full}
use Rattle.cs_board.specs.{Board.plan, inner.Sittings.deed, inner.Sittings.ran_out, Views.does}
use Rattle.cs_board.proofs.Stepping.{place_after}
use Rattle.cs_board.proofs.board.Board.put_job.Goals as goal

pub exchange-held-requires : goal.exchange-held-requires
exchange-held-requires g c = let e = c.requires.carries in
    (c.requires.sitting.table, (Vacant, e ∙ ap (λ r. (c.args.note, Vacant) ∷ r) (sym (ap rest e))))

pub leave_job-requires : goal.leave_job-requires
leave_job-requires g c =
    let s = c.args.sitting.now in
    let j = c.requires.job in
    let me = c.exchange-held.ensures.3 in
    record {
      sitting = place_after g.J.Job.means c.args.self.now s c.exchange-held.new.seat s.me.0
          ((c.args.note, Full c.args.job) ∷ rest s.me.1) c.requires.sitting c.exchange-held.ensures.0 me
          c.requires.sitting.knows;
      phase = subst (λ z. 1 ≤ (deed z.0).phase) (sym me) c.requires.phase;
      doing = subst
          (λ z. z.0.doing ≡ Some (ran_out g.J.Job.means (plan c.args.self.now) c.args.note (deed z.0).phase)) (sym me)
          c.requires.doing;
      job = (j.0, j.1, ap (λ z. z.1) me ∙ (λ i. (c.args.note, Full (j.2 i)) ∷ rest (c.requires.carries i)));
    }

pub returns-clause-me : goal.returns-clause-me
returns-clause-me g c = c.leave_job.ensures.me
    ∙ ap (λ z. (does z.0 (record (deed z.0) { held = false }), [])) c.exchange-held.ensures.3
