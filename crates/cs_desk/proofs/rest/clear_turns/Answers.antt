use Rattle.std.proofs.lemmas.Grind.{common_steps}
use Rattle.std.proofs.Common.{ℕ, ◌+◌, List, get_or, sym, ap, ◌∙◌, subst, arith, drop}
use Rattle.cs_board.specs.{Board.plan, Resting.IsSole, Resting.known_in, Plans.places_written, Views.with_word}
use Rattle.cs_desk.specs.inner.Resting.{ClearsTurns}
use Rattle.cs_desk.proofs.{Ending.next_written, Laying.clears_none, Laying.clears_more}
use Rattle.cs_desk.proofs.rest.clear_turns.Goals as goal

pub loop-area-init : goal.loop-area-init
loop-area-init g c = grind (arith, common_steps, clears_none)

pub lay-requires-clause-word : goal.lay-requires-clause-word
lay-requires-clause-word g c =
    let items = c.as_slice-area-items.ensures ∙ ap (λ f. f.writes) c.footprint.ensures.foot ∙ c.requires.note in
    let next = next_written g.J.Job.means g.met.J.Job.frames (plan c.args.board.now) c.requires.whole c.args.note
    c.as_slice-area-items.result.now c.loop-area.area-index items c.loop-area-test.true in
    omega (
      arith,
      next.0,
      c.turn_word.ensures,
      c.table-table.ensures.words,
      ap (λ z. z.words)
          c.table-table.ensures.name,
    )

pub loop-area-preserved : goal.loop-area-preserved
loop-area-preserved g c =
    let k = plan c.args.board.now in
    let W : List ℕ = places_written g.J.Job.means k c.args.note in
    let i : ℕ = c.loop-area.area-index in
    let r : ℕ = get_or c.as_slice-area-items.result.now i 0 in
    let items = c.as_slice-area-items.ensures ∙ ap (λ f. f.writes) c.footprint.ensures.foot ∙ c.requires.note in
    let next = next_written g.J.Job.means g.met.J.Job.frames k c.requires.whole c.args.note
    c.as_slice-area-items.result.now i items c.loop-area-test.true in
    record {
      sole = subst (λ id. IsSole id c.lay.new.seat) c.table-table.ensures.name c.lay.ensures.sole;
      areas = c.lay.ensures.areas ∙ c.loop-area.invariant.areas;
      cleared = subst (ClearsTurns k W (drop (i + 1) W) (known_in c.args.seat.now))
          (sym (c.lay.ensures.known ∙ ap (λ z. with_word (known_in c.loop-area.seat) z 0) c.turn_word.ensures))
          (clears_more k W (drop (i + 1) W) r (known_in c.args.seat.now) (known_in c.loop-area.seat) next.0
          (subst (λ l. ClearsTurns k W l (known_in c.args.seat.now) (known_in c.loop-area.seat)) next.1
          c.loop-area.invariant.cleared));
    }
