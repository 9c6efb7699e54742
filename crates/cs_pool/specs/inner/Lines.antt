-- What the caller knows about a helper.
use Rattle.std.specs.Prelude.{◌≡◌, ◌<◌, ◌≤◌, ◌+◌, ℕ, false}
use Rattle.std.specs.Arc.{arc_value}
use Rattle.cs_board.specs.{Board.view, declared.board.Board.Board, declared.board.BoardSeat.BoardSeat}
use Rattle.cs_cells.specs.Meaning.{Meaning}
use Rattle.cs_pool.specs.{Mailboxes.HasNothingOut, Mailboxes.HasOut, Mailboxes.HasSomethingOut, declared.line.Line.Line}
use Rattle.cs_pool.specs.{Mailboxes.given, Mailboxes.served, Numbered.IsFirst, Working.IsReady}

module _ {J : Type 0} where
  -- the helper has nothing of the caller's
  abbrev pub IsIdle : Line J → Type 0
  IsIdle line = HasNothingOut (arc_value line.mailbox) line.end

  -- this seat of this board is out at the helper
  abbrev pub IsLent : Line J → Board J → BoardSeat J → Type 0
  IsLent line board seat = HasOut (arc_value line.mailbox) line.end board seat

  -- some seat is out
  abbrev pub IsBusy : Line J → Type 0
  IsBusy line = HasSomethingOut (arc_value line.mailbox) line.end

  -- a seat of this board that was split off the first one, with this number, is out at the helper
  pub record IsAway (board : Board J) (line : Line J) (n : ℕ) : Type 0 where
    pub seat : BoardSeat J
    pub lent : IsLent line board seat
    pub later : (view seat).first ≡ false
    pub number : (view seat).number ≡ n

module _ {J : Type 0} (M : Meaning J) where
  -- The helper was given one part or none: as many seats of this board were split off the first seat, which
  -- is `first` before and first' afterwards.
  pub record Lends (board : Board J) (parts : ℕ) (before after : Line J) (first first' : BoardSeat J) : Type 0 where
    pub few : parts ≤ 1
    pub away : 0 < parts → IsAway board after (view first).made
    pub home : parts ≡ 0 → IsIdle after
    pub ready : IsReady M board first'
    pub leads : IsFirst (view first').made (view first')
    pub made : (view first').made ≡ (view first).made + parts
    pub given : given after.end ≡ given before.end + parts
    pub served : served after.end ≡ served before.end
