-- What the two ends of a mailbox know.
use Rattle.std.specs.Prelude.{ℕ, ◌+◌, List, [], ◌∷◌, Option, Some, None}
use Rattle.std.specs.Arc.{arc_value}
use Rattle.cs_board.specs.{declared.board.Board.Board, declared.board.BoardSeat.BoardSeat}
use Rattle.cs_pool.specs.{declared.letter.MailboxLetter.MailboxLetter, declared.letter.Task.Task}
use Rattle.cs_pool.specs.{declared.view.Errand.Errand, declared.view.Knows.Knows, declared.view.Tasks.Tasks}
use Rattle.cs_pool.specs.declared.view.Role.TheVariants.{Caller, Helper}
use Rattle.cs_pool.specs.declared.letter.MailboxLetter.TheVariants as letter

-- the tasks of a helper that was given none
abbrev pub no_tasks : Tasks
no_tasks = record { given = 0; served = 0 }

-- one more task was given
abbrev pub one_given : Tasks → Tasks
one_given n = record { given = n.given + 1; served = n.served }

-- one more task was served
abbrev pub one_served : Tasks → Tasks
one_served n = record { given = n.given; served = n.served + 1 }

module _ {J : Type 0} where
  -- this seat of this board
  abbrev pub errand : Board J → BoardSeat J → Errand J
  errand board seat = record { board = board; seat = seat }

  -- the seat that goes out with a task, and its board
  abbrev pub errand_of : Task J → Errand J
  errand_of task = errand (arc_value task.board) task.seat

  -- what the task gives out that an end has written into its slot
  abbrev pub task_in : List (ℕ × MailboxLetter J) → Option (Errand J)
  task_in [] = None
  task_in ((k, letter.Nothing) ∷ xs) = None
  task_in ((k, letter.Task task) ∷ xs) = Some (errand_of task)
  task_in ((k, letter.Answer seat) ∷ xs) = None

  -- the caller's view: the tasks so far, and the seat that is out, if one is
  abbrev pub caller : Tasks → Option (Errand J) → Knows J
  caller n lent = record { role = Caller; out = lent; tasks = n }

  -- the helper's view: it works at this seat, or is free
  abbrev pub helper : Option (Errand J) → Knows J
  helper duty = record { role = Helper; out = duty; tasks = no_tasks }
