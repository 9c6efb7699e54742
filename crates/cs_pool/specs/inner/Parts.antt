-- The parts of a cycle that helpers have, one after another.
use Rattle.std.specs.Prelude.{◌≡◌, ℕ, ◌+◌, ◌<◌, ◌≤◌, List, length, slice_index_or}
use Rattle.cs_board.specs.{Board.view, declared.board.Board.Board, declared.board.BoardSeat.BoardSeat}
use Rattle.cs_cells.specs.Meaning.{Meaning}
use Rattle.cs_pool.specs.{Numbered.IsFirst, Pools.given_to, Pools.served_by, Working.IsReady}
use Rattle.cs_pool.specs.{declared.line.Line.Line, inner.Lines.IsAway, inner.Lines.IsIdle}

module _ {J : Type 0} where
  -- Each of the first n helpers has a seat, numbered from `from` on, that was split off the first seat; the
  -- other helpers have none. `parts` parts were given since `before`.
  pub record AreOut (board : Board J) (from n parts : ℕ) (before now : List (Line J)) : Type 0 where
    pub away : (i : ℕ) (line : Line J) → i < n → IsAway board (slice_index_or now i line) (from + i)
    pub home : (i : ℕ) (line : Line J) → n ≤ i → i < length now → IsIdle (slice_index_or now i line)
    pub long : length now ≡ length before
    pub given : given_to now ≡ given_to before + parts

module _ {J : Type 0} (M : Meaning J) where
  -- each of the first n helpers was given a part: n seats were split off the first seat, which is `first`
  -- before and first' afterwards
  pub record AreLent (board : Board J) (n : ℕ) (before after : List (Line J)) (first first' : BoardSeat J)
      : Type 0 where
    pub out : AreOut board (view first).made n n before after
    pub leads : IsFirst (view first').made (view first')
    pub ready : IsReady M board first'
    pub made : (view first').made ≡ (view first).made + n
    pub served : served_by after ≡ served_by before
