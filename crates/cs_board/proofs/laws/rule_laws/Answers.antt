use Rattle.cs_board.proofs.Closing.{nothing_lost, ends_serial, ends_mine}
use Rattle.cs_board.proofs.Ran.{done_once, earlier_done, seen_before}
use Rattle.cs_board.proofs.laws.rule_laws.Goals as goal

pub returns-clause-nothing_lost : goal.returns-clause-nothing_lost
returns-clause-nothing_lost g c k s h l = nothing_lost g.J.Job.means g.met.J.Job.frames k s h l

pub returns-clause-serial : goal.returns-clause-serial
returns-clause-serial g c k s h l = ends_serial g.J.Job.means g.met.J.Job.frames k s h l

pub returns-clause-earlier_done : goal.returns-clause-earlier_done
returns-clause-earlier_done g c k s h = earlier_done g.J.Job.means k s h

pub returns-clause-seen_before : goal.returns-clause-seen_before
returns-clause-seen_before g c k s h = seen_before g.J.Job.means k s h g.met.J.Job.frames

pub returns-clause-done_once : goal.returns-clause-done_once
returns-clause-done_once g c k s h = done_once g.J.Job.means k s h

pub returns-clause-mine : goal.returns-clause-mine
returns-clause-mine g c k s id v h here last = ends_mine g.J.Job.means g.met.J.Job.frames k s h (id, v, here, last)
