use Rattle.std.proofs.Common.{length, sym, ap, ◌∙◌, subst}
use Rattle.cs_board.specs.{Board.plan, Board.name, Resting.known_in}
use Rattle.cs_desk.specs.inner.Resting.{IsResting, IsClearing}
use Rattle.cs_desk.proofs.{Ending.left_long, Ending.none_past, Ending.rests_again, Laying.all_cleared}
use Rattle.cs_desk.proofs.desk.Desk.rest.Goals as goal

pub invariant_of-result : goal.invariant_of-result
invariant_of-result g c =
    sym c.into_parts-table.ensures.built.notes
    ∙ sym (left_long g.J.Job.means g.met.J.Job.frames (plan c.args.board) c.requires.seat.whole)
    ∙ ap length (sym c.clear-jobs.ensures.jobs)

pub invariant_of-resting : goal.invariant_of-resting
invariant_of-resting g c =
    let k = plan c.args.board in
    let id = name c.args.board in
    let s = c.clear-jobs.new.seat in
    let long = left_long g.J.Job.means g.met.J.Job.frames k c.requires.seat.whole in
    record {
      rests = subst (λ i. IsResting c.into_parts-table.result.areas c.into_parts-table.result.cells i s)
          (sym c.into_parts-table.ensures.table)
          (rests_again g.J.Job.means k c.into_parts-table.result.areas c.into_parts-table.result.cells id s
          c.requires.seat.whole c.clear-jobs.ensures.sole (c.clear-jobs.ensures.areas ∙ c.end-seat.ensures.areas)
          c.into_parts-table.ensures.built.areas c.into_parts-table.ensures.built.cells
          (all_cleared g.J.Job.means k (known_in s) id.words id.slots
          (subst (λ n. IsClearing g.J.Job.means k n (known_in s)) (sym long) c.clear-jobs.ensures.cleared)
          c.requires.seat.whole.cells (sym c.into_parts-table.ensures.built.words)
          (c.clear-jobs.ensures.slots ∙ c.end-seat.ensures.slots)
          (none_past g.J.Job.means g.met.J.Job.frames k c.requires.seat.whole)));
    }

pub returns-clause-jobs : goal.returns-clause-jobs
returns-clause-jobs g c = c.clear-jobs.ensures.jobs

pub returns-clause-areas : goal.returns-clause-areas
returns-clause-areas g c = c.clear-jobs.ensures.areas ∙ c.end-seat.ensures.areas

pub returns-clause-graph : goal.returns-clause-graph
returns-clause-graph g c = c.into_parts-table.ensures.graph

pub returns-clause-room : goal.returns-clause-room
returns-clause-room g c = (
  ap (λ i. i.slots) c.into_parts-table.ensures.table,
  ap (λ i. i.words) c.into_parts-table.ensures.table,
)
