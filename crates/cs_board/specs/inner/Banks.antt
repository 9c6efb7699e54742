-- The cells of the board as a job sees them.
use Rattle.std.specs.Prelude.{◌≡◌, ℕ, List, [], length, Option, Some, None, true}
use Rattle.atomic_table.specs.{Seated.TableId, declared.shared.Seat.Seat}
use Rattle.cs_board.specs.{Board.plan, Board.IsViewOf, inner.Sittings.deed, declared.board.Board.Board}
use Rattle.cs_board.specs.{declared.view.Berth.Berth, declared.view.Doing.Doing, declared.view.View.View}
use Rattle.cs_cells.specs.{Access.Access, Meaning.Meaning}
use Rattle.cs_board.specs.Plans.{IsPlan, uses_at, writes_at}

-- what the view does, without its image
abbrev pub bare : Option Doing → Option Doing
bare None = None
bare (Some d) = Some (record d { image = [] })

module _ {J : Type 0} where
  -- the view without the image of its note
  abbrev pub imageless : View J → View J
  imageless v = record v { doing = bare v.doing }

-- What reading and setting cells doesn't change: the board, and everything in the seat except the values of
-- the image.
pub record Frame (J : Type 0) : Type 0 where
  pub name : ℕ
  pub board : Board J
  pub table_id : TableId
  pub id : ℕ
  pub view : View J
  pub carried : List (ℕ × Berth J)
  pub count : ℕ

module _ {J : Type 0} where
  -- the frame of a call with this board and this seat
  abbrev pub frame_of : Board J → Seat (Berth J) (View J) → ℕ → Frame J
  frame_of board sitting name = record {
    name = name;
    board = board;
    table_id = sitting.table_id;
    id = sitting.id;
    view = imageless sitting.me.0;
    carried = sitting.me.1;
    count = length (deed sitting.me.0).image;
  }

module _ {J : Type 0} (M : Meaning J) where
  -- the seat belongs to the board and is running a note
  pub record IsAtWork (r : Frame J) : Type 0 where
    pub whole : IsPlan M (plan r.board)
    pub table : r.table_id ≡ r.board.frame.table.shared.table_id
    pub knows : IsViewOf (plan r.board) r.view
    pub doing : r.view.doing ≡ Some (deed r.view)

  -- the note uses the cell
  pub record CanGet (r : Frame J) (a : ℕ) : Type 0 where
    pub works : IsAtWork r
    pub uses : uses_at M (plan r.board) (deed r.view).note a ≡ true

  -- the note writes the cell and has not run yet
  pub record CanSet (r : Frame J) (a : ℕ) : Type 0 where
    pub works : IsAtWork r
    pub held : (deed r.view).held ≡ true
    pub phase : (deed r.view).phase ≡ 0
    pub writes : writes_at M (plan r.board) (deed r.view).note a ≡ true

  -- what the seat may do with the cells
  abbrev pub access_at : Frame J → Access
  access_at r = record { can_get = CanGet r; can_set = CanSet r; count = r.count }
