-- A mailbox may be shared by the caller and its helper, and the helper's end may move to the helper's thread,
-- if a job may move to another thread.
use denote.Enum.Declared as choice
use denote.Enum.Enum.{Enum}
use denote.Param.Send.{IsSend, IsSync, sendable, recorded_send, recorded_sync, struct_send, struct_sync, enum_send}
use denote.RattleType.{RattleType}
use denote.Struct.Declared as declared
use denote.Struct.Struct.{Struct}
use Rattle.atomic_table.proofs.owned.Table.TheSendSync as table
use Rattle.atomic_table.proofs.shared.Seat.TheSendSync as end
use Rattle.std.proofs.Crossing.{crosses}
use Rattle.cs_board.proofs.board.BoardSeat.TheSendSync as seat
use Rattle.cs_board.proofs.board.Frame.TheSendSync as frame
use Rattle.cs_board.specs.contracts.board.Board as board
use Rattle.cs_cells.specs.declared.job.Job.{Ghosts}
use Rattle.cs_graph.proofs.graph.Graph.TheSendSync as graph
use Rattle.cs_pool.proofs.member.Member.TheSendSync as member
use Rattle.cs_pool.specs.contracts.letter.MailboxLetter as letter
use Rattle.cs_pool.specs.contracts.letter.Task as task
use Rattle.cs_pool.specs.contracts.mailbox.HelperEnd as helper_end
use Rattle.cs_pool.specs.contracts.mailbox.Mailbox as mailbox

module _ (T : RattleType) (g : Ghosts T.Denot) (s : IsSend T) where
  board_sync : IsSync (board.the_row T g)
  board_sync = let B = board.the_type T g in
      recorded_sync (Struct (declared.shape B)) B.D B.to B.to_one (struct_sync (declared.shape B)
      (search (sendable, crosses, frame.the_field_sync, graph.the_send, graph.the_sync) depth 40))

  board_send : IsSend (board.the_row T g)
  board_send = let B = board.the_type T g in
      recorded_send (Struct (declared.shape B)) B.D B.to B.to_one (struct_send (declared.shape B)
      (search (sendable, crosses, frame.the_field_send, graph.the_send, graph.the_sync) depth 40))

  task_send : IsSend (Struct (declared.shape (task.the_type T g)))
  task_send = struct_send (declared.shape (task.the_type T g))
      (search (sendable, crosses, seat.the_field_send, member.the_field_send, board_send, board_sync) depth 40)

  letter_send : IsSend (letter.the_row T g)
  letter_send = let L = letter.the_type T g in
      recorded_send (Enum (choice.shape L)) L.D L.to L.to_one
      (enum_send (choice.shape L) (search (sendable, crosses, seat.the_field_send, task_send) depth 40))

  pub mailbox_send : IsSend (mailbox.the_row T g)
  mailbox_send = let B = mailbox.the_type T g in
      recorded_send (Struct (declared.shape B)) B.D B.to B.to_one
      (struct_send (declared.shape B) (search (sendable, crosses, table.the_field_send, letter_send) depth 40))

  pub mailbox_sync : IsSync (mailbox.the_row T g)
  mailbox_sync = let B = mailbox.the_type T g in
      recorded_sync (Struct (declared.shape B)) B.D B.to B.to_one
      (struct_sync (declared.shape B) (search (sendable, crosses, table.the_field_sync, letter_send) depth 40))

  pub end_send : IsSend (helper_end.the_row T g)
  end_send = let B = helper_end.the_type T g in
      recorded_send (Struct (declared.shape B)) B.D B.to B.to_one
      (struct_send (declared.shape B) (search (sendable, crosses, end.the_send, letter_send) depth 40))
