-- What the calls of a board promise about its seats.
use Rattle.std.specs.Prelude.{◌≡◌, ℕ, ◌+◌, ◌<◌, ◌≤◌, List, [], ◌∷◌, length, true, false, Option, Some, None}
use Rattle.std.specs.{Prelude.MatchOption, Prelude.slice_get, List.sum_by, Vec.vec_capacity}
use Rattle.atomic_table.specs.Seated.{TableId}
use Rattle.cs_cells.specs.Meaning.{Meaning}
use Rattle.cs_board.specs.{Seen.plan_seen, declared.board.Board.Board, declared.board.BoardSeat.BoardSeat, Facts.owed}
use Rattle.cs_board.specs.{declared.view.Doing.Doing, declared.view.Plan.Plan, declared.view.View.View}
use Rattle.cs_graph.specs.Graph.{Dependencies}
use Rattle.cs_board.specs.Plans.{IsPlan, before_at, places_used, places_written, writers_before}
use Rattle.cs_board.specs.Views.{newcomer, no_plan, fresh}

-- the note that is being done, and 0 if none is
abbrev pub note_in : Option Doing → ℕ
note_in None = 0
note_in (Some d) = d.note

module _ {J : Type 0} where
  -- the first view of a list; if the list is empty, the view of a seat without a plan
  abbrev pub first_of : List (View J) → View J
  first_of [] = newcomer no_plan 0
  first_of (v ∷ vs) = v

  -- what the board's cycle began with
  abbrev pub plan : Board J → Plan J
  plan board = plan_seen board.opening.value

  -- the identity of the board's table
  abbrev pub name : Board J → TableId
  name board = board.frame.table.shared.table_id

  -- which note waits for which
  abbrev pub graph_of : Board J → Dependencies
  graph_of board = board.graph.value

  -- what the seat knows
  abbrev pub view : BoardSeat J → View J
  view seat = first_of seat.badge.views

  -- a view of a seat of the board with this plan
  pub record IsViewOf (k : Plan J) (v : View J) : Type 0 where
    pub plan : v.plan ≡ k
    pub live : v.spent ≡ false
    pub owes_in : (t : ℕ) → 0 < owed t v → t < k.notes
    pub playing : v.rest ≡ None

  -- the first seat has room for the jobs at the end
  abbrev pub HasRoom : Plan J → View J → BoardSeat J → Type 0
  HasRoom k v seat = MatchOption seat.room (v.first ≡ false)
      (λ jobs. (v.first ≡ true) × (jobs.items ≡ []) × (k.notes ≤ vec_capacity jobs))

  -- the seat is doing exactly `what` (or nothing), and has nothing to finish
  pub record DoesOnly (v : View J) (what : Option Doing) : Type 0 where
    pub doing : v.doing ≡ what
    pub closing : v.closing ≡ None
    pub moving : v.moving ≡ None

  -- the seat runs nothing and has nothing to finish
  abbrev pub IsIdle : View J → Type 0
  IsIdle v = DoesOnly v None

  -- the note that the seat is running
  abbrev pub note_of : View J → ℕ
  note_of v = note_in v.doing

  -- v and w are views of one seat: its place, and what it knows about the seats split off it
  pub record SameSeat (v w : View J) : Type 0 where
    pub first : w.first ≡ v.first
    pub number : w.number ≡ v.number
    pub out : w.out ≡ v.out
    pub made : w.made ≡ v.made

  -- a try with a number above `tries` found note t other than Available
  abbrev pub FoundSince : ℕ → View J → ℕ → Type 0
  FoundSince tries v t = (i : ℕ) × (n : ℕ) × (slice_get v.found i ≡ Some (t, n)) × (tries < n)

module _ {J : Type 0} (M : Meaning J) where
  -- a seat of the board with this plan and this table
  pub record IsSeatOf (k : Plan J) (table_id : TableId) (seat : BoardSeat J) : Type 0 where
    pub whole : IsPlan M k
    pub table : seat.badge.table_id ≡ table_id
    pub one : seat.badge.views ≡ view seat ∷ []
    pub knows : IsViewOf k (view seat)
    pub note : (d : Doing) → (view seat).doing ≡ Some d → (d.note ≡ seat.note) × (d.note < k.notes)
    pub room : HasRoom k (view seat) seat

  -- note t has run and made all its turns
  abbrev pub run_through : Plan J → ℕ → Doing
  run_through k t = record
      { note = t; phase = 1 + length (places_written M k t); held = false; image = before_at M k (t + 1) }

  -- the seat has claimed a note and not run it; the note's cells are those before it in the serial run
  abbrev pub IsClaimed : View J → Type 0
  IsClaimed v = DoesOnly v (Some (fresh M v.plan (note_of v)))

  -- the note that the seat claimed has run; its cells are those after it in the serial run
  abbrev pub HasRun : View J → Type 0
  HasRun v = DoesOnly v (Some (run_through v.plan (note_of v)))

  -- how many earlier notes write each resource that note t uses, added up over these resources
  abbrev pub turns_before : Plan J → ℕ → ℕ
  turns_before k t = sum_by (λ r. writers_before M k t r) (places_used M k t)
