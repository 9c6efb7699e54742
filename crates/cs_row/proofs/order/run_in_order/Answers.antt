use Rattle.std.proofs.lemmas.Grind.{common_steps}
use Rattle.std.proofs.Common.{ℕ, suc, ◌<◌, ◌+◌, ◌≡◌, ◌++◌, List, length, take, drop, slice_get, slice_set, Some, sym}
use Rattle.std.proofs.Common.{ap, ◌∙◌, subst, get_or, arith}
use Rattle.cs_cells.specs.{Access.Allows, Meaning.Uses, Meaning.Writes, Serial.serial_jobs, Serial.before}
use Rattle.cs_cells.proofs.SerialRun.{before-suc, job_at, before-all, length-serial_jobs}
use Rattle.cs_row.proofs.Fronts.{all_at, next_here, next_set, all_of}
use Rattle.cs_row.proofs.order.run_in_order.Goals as goal

pub run-requires : goal.run-requires
run-requires g c =
    let M = g.J.Job.means in
    let start = g.B.Bank.cells c.args.bank.now in
    let inv = c.loop-at.invariant in
    let n : ℕ = c.loop-at.at in
    let job : g.row.J.Denot = get_or c.loop-at.jobs n c.index-jobs-at.result in
    let there = next_here (serial_jobs M c.args.jobs.now start) c.args.jobs.now c.loop-at.jobs n
    c.index-jobs-at.result (length-serial_jobs M c.args.jobs.now start) (omega (arith, c.loop-at-test.true)) inv.jobs in
    let allowed = all_at (λ j. Allows (g.B.Bank.access (g.B.Bank.rest c.args.bank.now)) (Uses M j) (Writes M j))
    c.args.jobs.now n job c.requires.allowed there in
    subst (λ r. Allows (g.B.Bank.access r) (Uses M job) (Writes M job)) (sym inv.rest) allowed

pub loop-at-preserved : goal.loop-at-preserved
loop-at-preserved g c =
    let M = g.J.Job.means in
    let js : List g.row.J.Denot = c.args.jobs.now in
    let start = g.B.Bank.cells c.args.bank.now in
    let ys : List g.row.J.Denot = serial_jobs M js start in
    let n : ℕ = c.loop-at.at in
    let inv = c.loop-at.invariant in
    let job : g.row.J.Denot = get_or c.loop-at.jobs n c.index-jobs-at.result in
    let low : n < length js = omega (arith, c.loop-at-test.true) in
    let long : length ys ≡ length js = length-serial_jobs M js start in
    let more : n + 1 ≡ suc n = omega arith in
    let there : slice_get js n ≡ Some job = next_here ys js c.loop-at.jobs n c.index-jobs-at.result
    long low inv.jobs in
    let ran : c.run.new.self ≡ M.after job (before M js start n) = c.run.ensures.job ∙ ap (M.after job) inv.cells in
    record {
      low = omega (arith, low);
      jobs = ap (λ l. slice_set l n c.run.new.self) inv.jobs
          ∙ next_set ys js n c.run.new.self long low (job_at M js start n job there ∙ ap Some (sym ran))
          ∙ ap (λ k. take k ys ++ drop k js) (sym more);
      cells = c.run.ensures.cells ∙ ap (M.leaves job) inv.cells ∙ sym (before-suc M js start n job there)
          ∙ ap (before M js start) (sym more);
      rest = c.run.ensures.rest ∙ inv.rest;
      place = omega (arith, inv.place);
    }

pub returns-clause-jobs : goal.returns-clause-jobs
returns-clause-jobs g c = grind (arith, common_steps, all_of, length-serial_jobs)

pub returns-clause-cells : goal.returns-clause-cells
returns-clause-cells g c =
    let inv = c.loop-at.invariant in
    let all : c.loop-at.at ≡ length c.args.jobs.now = omega (arith, c.loop-at-test.false, inv.low) in
    inv.cells ∙ ap (before g.J.Job.means c.args.jobs.now (g.B.Bank.cells c.args.bank.now)) all
    ∙ before-all g.J.Job.means c.args.jobs.now (g.B.Bank.cells c.args.bank.now)
