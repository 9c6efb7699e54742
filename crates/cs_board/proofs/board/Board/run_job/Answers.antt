use Rattle.std.proofs.lemmas.Grind.{common_steps}
use Rattle.std.proofs.Common.{rules, length, ap, ◌∙◌, arith}
use Rattle.cs_board.specs.{Board.plan, inner.Sittings.deed_in}
use Rattle.cs_board.proofs.{Performing.used_of, Performing.written_of, Performing.works_at, Conflicts.used_within}
use Rattle.cs_cells.proofs.SerialRun.{length-before}
use Rattle.cs_board.proofs.board.Board.run_job.Goals as goal

pub run-requires : goal.run-requires
run-requires g c =
    let k = plan c.args.self.now in
    let M = g.J.Job.means in
    let whole = c.requires.sitting.whole in
    record {
      get = λ a u. grind (arith, common_steps, used_of, works_at);
      set = λ a u. grind (arith, common_steps, works_at, written_of);
      there = λ a u.
          let used = used_of M k whole c.args.note c.args.job.now c.requires.job a u in
          let near = (used_within M k whole c.args.note a used).0 in
          let long = ap (λ o. length (deed_in o).image) c.requires.doing
          ∙ length-before M g.met.J.Job.frames k.jobs k.cells c.args.note in
          omega (arith, near, long);
    }

pub returns-clause-job : goal.returns-clause-job
returns-clause-job g c = search rules
