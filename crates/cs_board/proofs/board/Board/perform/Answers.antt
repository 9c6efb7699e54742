use Rattle.std.proofs.Common.{arith}
use Rattle.std.proofs.lemmas.Grind.{common_steps}
use Rattle.cs_board.proofs.Performing.{reimage, leaves_is}
use Rattle.cs_board.proofs.board.Board.perform.Goals as goal

pub returns-clause-me : goal.returns-clause-me
returns-clause-me g c = grind (arith, common_steps, leaves_is, reimage)
