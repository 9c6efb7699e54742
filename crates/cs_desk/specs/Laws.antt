-- What the rule of a board says about notes if its jobs are rows of them. M is what the notes mean, k the
-- plan of the rows' cycle, s the state of the board; i and j are seats, v and w their views, d and e what
-- they do; t is a note, p an earlier one and u a later one.
use Rattle.std.specs.Prelude.{◌≡◌, ◌<◌, ℕ, List, map, length, slice_index, Some}
use mathlib.Core.Option.{some}
use lib.ListN.{get_elem?}
use Rattle.atomic_table.specs.Table.{State}
use Rattle.cs_cells.specs.Meaning.{Meaning}
use Rattle.cs_graph.specs.Conflict.{Conflict}
use Rattle.cs_row.specs.{Heard.HeardRow, Laws.jobs_of, Rows.row_at}
use Rattle.cs_board.specs.{Counts.same, Counts.total, Facts.has_done, Words.status_at}
use Rattle.cs_board.specs.{declared.view.Berth.Berth, declared.view.Doing.Doing, declared.view.Plan.Plan}
use Rattle.cs_board.specs.declared.view.View.{View}
use Rattle.cs_board.specs.declared.words.TheConstants.{DONE, WAITING}

module _ {J : Type 0} (M : Meaning J) (notes : List J) (k : Plan (HeardRow J))
    (s : State (Berth (HeardRow J)) (View (HeardRow J))) where
  -- the row of a note, and that row's status
  abbrev pub row_of : ℕ → ℕ
  row_of t = row_at (jobs_of k.jobs) t

  abbrev pub status_of : ℕ → ℕ
  status_of t = slice_index s.words (status_at k (row_of t))

  -- this seat does the row of this note
  pub record DoesRowOf (t i : ℕ) (v : View (HeardRow J)) (d : Doing) : Type 0 where
    pub seat : get_elem? s.views i ≡ some v
    pub doing : v.doing ≡ Some d
    pub row : d.note ≡ row_of t

  -- each note is run once, after every earlier note with which it conflicts and before every later one
  pub record RunInTurn : Type 0 where
    -- While a seat does a note's row, each earlier note with which that note conflicts is in an earlier row,
    -- which is Done.
    pub earlier : (i p t : ℕ) (v : View (HeardRow J)) (d : Doing) → DoesRowOf t i v d
        → Conflict (map M.foot notes) p t → (row_of p < row_of t) × (status_of p ≡ DONE)
    -- Each later note with which it conflicts is in a later row, which is Waiting.
    pub later : (i t u : ℕ) (v : View (HeardRow J)) (d : Doing) → DoesRowOf t i v d
        → Conflict (map M.foot notes) t u → (row_of t < row_of u) × (status_of u ≡ WAITING)
    -- No two seats do the row of one note. Once that row is Done, one seat has finished it, once.
    pub one_seat : (i j t : ℕ) (v w : View (HeardRow J)) (d e : Doing) → DoesRowOf t i v d → DoesRowOf t j w e → i ≡ j
    pub once : (t : ℕ) → t < length notes → total (has_done (row_of t)) s.views ≡ same (status_of t) DONE
