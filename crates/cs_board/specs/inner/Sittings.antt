-- A seat during a call.
use Rattle.std.specs.Prelude.{◌≡◌, ℕ, ◌+◌, ◌<◌, ◌≤◌, [], Bool, true, false, cond, Option, Some, None}
use Rattle.atomic_table.specs.declared.shared.Seat.{Seat}
use Rattle.cs_board.specs.Board.{plan, IsViewOf, IsIdle, SameSeat, FoundSince}
use Rattle.cs_board.specs.{declared.board.Board.Board, Facts.owed, Plans.IsPlan, Plans.before_at, Views.began}
use Rattle.cs_board.specs.{Views.missed, Views.fresh, Views.settled, Views.passed, declared.view.Berth.Berth}
use Rattle.cs_board.specs.{declared.view.Doing.Doing, declared.view.Plan.Plan, declared.view.View.View}
use Rattle.cs_cells.specs.Meaning.{Meaning}
use Rattle.cs_graph.specs.Graph.{Edge, IsNextOut, NoneIn}

-- what is done, and an empty value if nothing is
abbrev pub deed_in : Option Doing → Doing
deed_in None = record { note = 0; phase = 0; held = false; image = [] }
deed_in (Some d) = d

-- the job is out of its slot
abbrev pub job_out : Doing → Doing
job_out d = record d { held = true }

module _ {J : Type 0} where
  -- what the view is doing, if it is doing a note
  abbrev pub deed : View J → Doing
  deed v = deed_in v.doing

  -- the seat is closing the note's edges, and e is the next one
  abbrev pub ClosesAt : Plan J → View J → ℕ → ℕ → Type 0
  ClosesAt k v note e = (i : ℕ) × (v.closing ≡ Some (record { note = note; from = i })) × IsNextOut k.edges note i e

  -- the seat is moving the note, and e is the next edge into it
  pub record MovesAt (k : Plan J) (v : View J) (note e : ℕ) : Type 0 where
    pub from : ℕ
    pub moving : v.moving ≡ Some (record { note = note; from = from })
    pub low : from ≤ e
    pub edge : (q : ℕ) × Edge k.edges e q note
    pub first : (g r : ℕ) → Edge k.edges g r note → from ≤ g → e ≤ g

  -- the seat is moving the note, which has passed all edges into it
  abbrev pub MovesOut : Plan J → View J → ℕ → Type 0
  MovesOut k v note = (i : ℕ) × (v.moving ≡ Some (record { note = note; from = i })) × NoneIn k.edges note i

  -- the view after note t watches edge e, or has passed it
  abbrev pub stopped : Bool → View J → ℕ → ℕ → View J
  stopped watches v t e = cond watches (settled v) (passed v t e)

  -- what stays the same while a note is closed or another is moved
  pub record Beside (v w : View J) : Type 0 where
    pub doing : w.doing ≡ v.doing
    pub tries : w.tries ≡ v.tries
    pub found : w.found ≡ v.found
    pub mine : w.mine ≡ v.mine
    pub seat : SameSeat v w

  -- what tries change: more notes have been found, and no further note is owed
  pub record Tries (v w : View J) : Type 0 where
    pub more : v.tries ≤ w.tries
    pub found : (tries t : ℕ) → FoundSince tries v t → FoundSince tries w t
    pub owes : (t : ℕ) → owed t w ≤ owed t v
    pub mine : w.mine ≡ v.mine
    pub seat : SameSeat v w

  -- each note from `from` on and below `to` was tried and found other than Available
  abbrev pub AllTried : View J → View J → ℕ → ℕ → Type 0
  AllTried v w from to = (t : ℕ) → from ≤ t → t < to → FoundSince v.tries w t × (owed t w ≡ 0)

  -- the seat is idle and owes nothing, and since view v it has tried every note and found none Available
  pub record HasTried (k : Plan J) (v w : View J) : Type 0 where
    pub idle : IsIdle w
    pub owes : w.owes ≡ []
    pub more : v.tries ≤ w.tries
    pub tried : (t : ℕ) → t < k.notes → FoundSince v.tries w t
    pub mine : w.mine ≡ v.mine
    pub same : SameSeat v w

  -- a look at note t found it Available, or was a failed try
  abbrev pub seen : Bool → View J → ℕ → View J
  seen available v t = cond available v (missed v t)

module _ {J : Type 0} (M : Meaning J) where
  -- a seat of this board
  pub record IsSittingOf (board : Board J) (sitting : Seat (Berth J) (View J)) : Type 0 where
    pub whole : IsPlan M (plan board)
    pub table : sitting.table_id ≡ board.frame.table.shared.table_id
    pub knows : IsViewOf (plan board) sitting.me.0

  -- an attempt to claim note t, successful if `won`
  abbrev pub tried : Bool → View J → ℕ → View J
  tried won v t = cond won (began M v t) (missed v t)

  -- the note has run, its job is out of its slot, and `phase` turns are made
  abbrev pub ran_out : Plan J → ℕ → ℕ → Doing
  ran_out k t phase = record { note = t; phase = phase; held = true; image = before_at M k (t + 1) }

  -- note t was claimed, and the seat has nothing else to do
  pub record HasClaimed (k : Plan J) (v : View J) (t : ℕ) : Type 0 where
    pub within : t < k.notes
    pub doing : v.doing ≡ Some (fresh M k t)
    pub closing : v.closing ≡ None
    pub moving : v.moving ≡ None
