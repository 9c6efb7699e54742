use Rattle.std.proofs.lemmas.{Grind.common_steps, List.FromFn.length-map-range_with_len}
use Rattle.std.proofs.Common.{◌≡◌, ◌∙◌, ap, arith, length, subst, sym}
use Rattle.std.specs.List.{All}
use Rattle.cs_cells.proofs.SerialRun.{length-serial_jobs}
use Rattle.cs_row.specs.HeardFrames.{shapes_after}
use Rattle.cs_row.proofs.Touching.{each_allowed}
use Rattle.cs_row.proofs.row.run_and_sum.Goals as goal

pub run_in_order-requires-clause-allowed : goal.run_in_order-requires-clause-allowed
run_in_order-requires-clause-allowed g c =
    each_allowed g.J.Job.means c.args.notes.now c.requires.row.row
    (g.B.Bank.access (g.B.Bank.rest c.args.bank.now)) c.requires.allowed

pub sum-requires : goal.sum-requires
sum-requires g c =
    let r = c.requires.row in
    let some = r.row.some in
    let few = r.few in
    let start = g.B.Bank.cells c.args.bank.now in
    let long = ap length c.run_in_order.ensures.jobs ∙ length-serial_jobs g.J.Job.means c.args.notes.now start in
    record {
      some = omega (arith, long, some);
      few = omega (arith, long, few);
      long = (
        r.frames,
        r.channels,
        subst (All (λ j. g.J.Heard.shape j ≡ (r.frames, r.channels))) (sym c.run_in_order.ensures.jobs)
            (shapes_after g.J.Job.means g.J.Heard.shape g.J.Heard.gives g.met.J.Job.frames g.met.J.Heard.keeps
            c.args.notes.now start (r.frames, r.channels) r.alike),
        r.long,
      );
    }

pub returns-clause-small : goal.returns-clause-small
returns-clause-small g c = grind (arith, common_steps, length-serial_jobs)

pub returns-clause-long : goal.returns-clause-long
returns-clause-long g c = grind (arith, common_steps, length-map-range_with_len, length-serial_jobs)
