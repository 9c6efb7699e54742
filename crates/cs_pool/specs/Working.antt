-- The seat of a worker before its work and after it.
use Rattle.std.specs.Prelude.{◌≡◌, []}
use Rattle.cs_board.specs.Board.{plan, name, view, IsSeatOf, IsIdle, SameSeat}
use Rattle.cs_board.specs.{declared.board.Board.Board, declared.board.BoardSeat.BoardSeat}
use Rattle.cs_cells.specs.Meaning.{Meaning}

module _ {J : Type 0} (M : Meaning J) where
  -- a seat of the board that runs nothing and has nothing to finish
  pub record IsReady (board : Board J) (seat : BoardSeat J) : Type 0 where
    pub of : IsSeatOf M (plan board) (name board) seat
    pub idle : IsIdle (view seat)

  -- a seat that found no more note to claim, and owes no try
  pub record IsDone (board : Board J) (seat : BoardSeat J) : Type 0 where
    pub of : IsSeatOf M (plan board) (name board) seat
    pub idle : IsIdle (view seat)
    pub owes : (view seat).owes ≡ []

  -- the seat of a worker before and after its work
  pub record IsThrough (board : Board J) (before after : BoardSeat J) : Type 0 where
    pub done : IsDone board after
    pub seat : SameSeat (view before) (view after)
