use Rattle.std.proofs.lemmas.Grind.{common_steps}
use Rattle.std.proofs.Common.{◌-◌, arith}
use Rattle.cs_board.specs.{Board.plan, inner.Sittings.deed}
use Rattle.cs_board.proofs.Turning.{written_there, look_next, few_writers}
use Rattle.cs_board.proofs.board.Board.turn_on.Goals as goal

pub look_turn-found-requires-clause-area : goal.look_turn-found-requires-clause-area
look_turn-found-requires-clause-area g c =
    (written_there g.J.Job.means (plan c.args.self.now) c.requires.sitting.whole (deed c.args.sitting.now.me.0).note
    ((deed c.args.sitting.now.me.0).phase - 1) c.args.area c.requires.next).0

pub look_turn-found-requires-clause-used : goal.look_turn-found-requires-clause-used
look_turn-found-requires-clause-used g c = grind (arith, common_steps, written_there)

pub overflow_add-found : goal.overflow_add-found
overflow_add-found g c = grind (arith, common_steps, few_writers, look_next)

pub turn_to-requires-clause-area : goal.turn_to-requires-clause-area
turn_to-requires-clause-area g c =
    (written_there g.J.Job.means (plan c.args.self.now) c.requires.sitting.whole (deed c.args.sitting.now.me.0).note
    ((deed c.args.sitting.now.me.0).phase - 1) c.args.area c.requires.next).0

pub turn_to-requires-clause-value : goal.turn_to-requires-clause-value
turn_to-requires-clause-value g c = grind (arith, common_steps, look_next)
