use Rattle.std.proofs.lemmas.{Grind.common_steps, List.Sums.sum_by_more}
use Rattle.std.proofs.Common.{true, ap, ◌∙◌, arith}
use Rattle.cs_board.specs.Board.{plan}
use Rattle.cs_board.proofs.Turning.{few_used, used_there, few_writers, look_before}
use Rattle.cs_board.proofs.board.Board.look_turns.Goals as goal

pub look_turn-turns-requires-clause-area : goal.look_turn-turns-requires-clause-area
look_turn-turns-requires-clause-area g c =
    let items = c.as_slice-area-items.ensures ∙ ap (λ f. f.uses) c.footprint.ensures.foot ∙ c.requires.foot in
    (used_there g.J.Job.means (plan c.args.self.now) c.requires.sitting.whole c.args.note
    c.as_slice-area-items.result.now c.loop-area.area-index items c.loop-area-test.true).0

pub look_turn-turns-requires-clause-used : goal.look_turn-turns-requires-clause-used
look_turn-turns-requires-clause-used g c = grind (arith, common_steps, used_there)

pub overflow_add-turns : goal.overflow_add-turns
overflow_add-turns g c = grind (arith, common_steps, few_used, few_writers, look_before)

pub loop-area-preserved : goal.loop-area-preserved
loop-area-preserved g c = grind (arith, common_steps, few_writers, look_before, sum_by_more)
