-- The facts that hold between any two steps, in groups. `status` and so on are parts of the words, `views`
-- are the seats' views. M is what jobs mean, k the plan; t and u are notes, p an earlier one, e an edge, i an
-- edge or the number of a seat; v is a view, d what it does, s a spot, x the number of a seat, j a job, a an
-- address, r the index of a resource.
use Rattle.std.specs.Prelude.{◌≡◌, ◌≢◌, ℕ, ◌+◌, ◌-◌, ◌<◌, ◌≤◌, ◌⊎◌, List, [], length, take, Bool, true, false, cond}
use Rattle.std.specs.Prelude.{Option, Some, None, ◌==◌, ◌&&◌, not, nat_le, slice_get}
use mathlib.Core.Option.{some, none}
use lib.ListN.{get_elem?}
use Rattle.cs_cells.specs.{Cells.cell, Cells.signed, Meaning.Meaning}
use Rattle.cs_graph.specs.Graph.{Edge}
use Rattle.cs_board.specs.Counts.{one, same, total, times, listed, count_below}
use Rattle.cs_board.specs.{Views.spent_view, declared.view.Berth.Berth, Words.at, declared.view.Doing.Doing}
use Rattle.cs_board.specs.{declared.view.Plan.Plan, declared.view.Spot.Spot, declared.view.View.View}
use Rattle.cs_board.specs.declared.view.Berth.TheVariants.{Full}
use Rattle.cs_board.specs.Plans.{IsRoot, area_count, uses_at, writes_at, places_written, before_at}
use Rattle.cs_board.specs.declared.words.TheConstants.{WAITING, AVAILABLE, IN_PROGRESS, DONE, WATCHED, CLOSED}
use mathlib.Core.Option as maybe

-- 1 if the spot is at note p, otherwise 0
abbrev pub spot_on : ℕ → Option Spot → ℕ
spot_on p None = 0
spot_on p (Some s) = same s.note p

-- 1 if the spot is at note p, at edge i or before it, otherwise 0
abbrev pub spot_by : ℕ → ℕ → Option Spot → ℕ
spot_by p i None = 0
spot_by p i (Some s) = one (s.note == p && nat_le s.from i)

-- 1 if the spot is at note p and at edge i, otherwise 0
abbrev pub spot_at : ℕ → ℕ → Option Spot → ℕ
spot_at p i None = 0
spot_at p i (Some s) = one (s.note == p && s.from == i)

-- 1 if note t is being done, otherwise 0
abbrev pub doing_on : ℕ → Option Doing → ℕ
doing_on t None = 0
doing_on t (Some d) = same d.note t

-- 1 if note t is being done and has run, otherwise 0
abbrev pub ran_on : ℕ → Option Doing → ℕ
ran_on t None = 0
ran_on t (Some d) = one (d.note == t && nat_le 1 d.phase)

module _ {J : Type 0} where
  -- 1 if the view does note t, otherwise 0
  abbrev pub does_note : ℕ → View J → ℕ
  does_note t v = doing_on t v.doing

  -- 1 if the view does note t, which has run, otherwise 0
  abbrev pub ran_note : ℕ → View J → ℕ
  ran_note t v = ran_on t v.doing

  -- 1 if the view closes note p, otherwise 0
  abbrev pub closes : ℕ → View J → ℕ
  closes p v = spot_on p v.closing

  -- 1 if the view closes note p and has not passed edge i, otherwise 0
  abbrev pub closes_by : ℕ → ℕ → View J → ℕ
  closes_by p i v = spot_by p i v.closing

  -- 1 if the view moves note t, otherwise 0
  abbrev pub moves : ℕ → View J → ℕ
  moves t v = spot_on t v.moving

  -- 1 if the view moves note t and is at edge i, otherwise 0
  abbrev pub moves_at : ℕ → ℕ → View J → ℕ
  moves_at t i v = spot_at t i v.moving

  -- how many tries for note t the view owes
  abbrev pub owed : ℕ → View J → ℕ
  owed t v = times t v.owes

  -- how often note t is among the notes that the view has finished
  abbrev pub has_done : ℕ → View J → ℕ
  has_done t v = times t v.mine

  -- 1 for the first seat's view, otherwise 0
  abbrev pub is_first : View J → ℕ
  is_first v = one v.first

  -- 1 for the view of split seat number x that isn't spent, otherwise 0
  abbrev pub numbered : ℕ → View J → ℕ
  numbered x v = one (not v.first && (not v.spent && v.number == x))

  -- how often the view lists seat x as split off and not joined
  abbrev pub names : ℕ → View J → ℕ
  names x v = times x v.out

  -- a try of this seat found note t other than Available
  abbrev pub Found : View J → ℕ → Type 0
  Found v t = (i : ℕ) × (n : ℕ) × (slice_get v.found i ≡ Some (t, n))

  module _ (k : Plan J) where
    -- Each word has one of its values. Every edge into a note that isn't Waiting is Closed, and a Closed edge
    -- leads from a Done note.
    pub record Gates (status watch : List ℕ) : Type 0 where
      pub statuses : (t : ℕ) → at status t ≤ DONE
      pub watches : (e : ℕ) → at watch e ≤ CLOSED
      pub closed : (e p t : ℕ) → Edge k.edges e p t → at status t ≢ WAITING → at watch e ≡ CLOSED
      pub done : (e p t : ℕ) → Edge k.edges e p t → at watch e ≡ CLOSED → at status p ≡ DONE

    -- A single view: it has the plan and does one thing at a time, and a spent one takes no part.
    pub record IsSane (v : View J) : Type 0 where
      pub plan : v.spent ≡ false → v.plan ≡ k
      pub one_duty : (v.doing ≡ None) ⊎ ((v.closing ≡ None) × (v.moving ≡ None))
      pub owes_in : (t : ℕ) → 0 < owed t v → t < k.notes
      pub follower : v.first ≡ false → v.out ≡ []
      pub leader : v.first ≡ true → v.spent ≡ false
      pub over : v.spent ≡ true → v ≡ spent_view
      pub playing : v.rest ≡ None

    -- A note is InProgress if and only if one view does it.
    abbrev pub Doers : List ℕ → List (View J) → Type 0
    Doers status views = (t : ℕ) → total (does_note t) views ≡ same (at status t) IN_PROGRESS

    -- A Waiting note has a place among the edges into it: those before are Closed, and it watches the edge
    -- there or is being moved by one view.
    pub record Waits (watch : List ℕ) (views : List (View J)) (t : ℕ) : Type 0 where
      pub edge : ℕ
      pub before : (e p : ℕ) → Edge k.edges e p t → e < edge → at watch e ≡ CLOSED
      pub after : (e p : ℕ) → Edge k.edges e p t → edge < e → at watch e ≢ WATCHED
      pub who : ((p : ℕ) × Edge k.edges edge p t × (at watch edge ≡ WATCHED) × (total (moves t) views ≡ 0))
          ⊎ (((p : ℕ) → Edge k.edges edge p t → at watch edge ≢ WATCHED) × (total (moves t) views ≡ 1)
          × (total (moves_at t edge) views ≡ 1))
      pub some_edge : (e : ℕ) × (p : ℕ) × Edge k.edges e p t

    -- A view closes a Done note, which no other view closes; each edge from a Done note is Closed or still
    -- ahead of that view. Only a Waiting note is moved.
    pub record Watches (status watch : List ℕ) (views : List (View J)) : Type 0 where
      pub closing : (p : ℕ) → total (closes p) views ≤ same (at status p) DONE
      pub left : (e p t : ℕ) → Edge k.edges e p t → at status p ≡ DONE
          → (at watch e ≡ CLOSED) ⊎ (0 < total (closes_by p e) views)
      pub waits : (t : ℕ) → t < k.notes → at status t ≡ WAITING → Waits watch views t
      pub calm : (t : ℕ) → at status t ≢ WAITING → total (moves t) views ≡ 0
      pub moving_in : (t : ℕ) → k.notes ≤ t → total (moves t) views ≡ 0

    -- An Available note is owed a try. A note that waits for none and that a try found other than Available
    -- has begun. Each Done note is counted once, for one seat.
    pub record Tallied (status : List ℕ) (views : List (View J)) : Type 0 where
      pub owing : (t : ℕ) → at status t ≡ AVAILABLE → 0 < total (owed t) views
      pub finding : (id : ℕ) (v : View J) (t : ℕ) → get_elem? views id ≡ some v → Found v t → t < k.notes → IsRoot k t
          → IN_PROGRESS ≤ at status t
      pub having : (t : ℕ) → total (has_done t) views ≡ same (at status t) DONE

  -- One view is the first; each other view that isn't spent has its own number, which is among those not
  -- joined yet.
  pub record Seats (views : List (View J)) : Type 0 where
    pub leading : total is_first views ≡ 1
    pub numbers : (x : ℕ) → total (numbered x) views ≡ total (names x) views
    pub once : (x : ℕ) → total (names x) views ≤ 1
    pub fresh : (id : ℕ) (v : View J) (x : ℕ) → get_elem? views id ≡ some v → 0 < names x v → x < v.made

  -- The own turn word of a note is 1 if the note is Done or has run, and otherwise 0.
  abbrev pub Owned : List ℕ → List ℕ → List (View J) → Type 0
  Owned status own views = (t : ℕ) → at own t ≡ same (at status t) DONE + total (ran_note t) views

module _ {J : Type 0} (M : Meaning J) (k : Plan J) where
  -- the job of note t in its slot: as when the cycle began, or after its run
  abbrev pub job_if : Bool → ℕ → J → J
  job_if run t j = cond run (M.after j (before_at M k t)) j

  -- The slot of a note that isn't InProgress holds its job. The slot of a note InProgress holds it until its
  -- view takes the job out, and is empty while the job is out.
  pub record Slots (status : List ℕ) (homes : List (maybe.Option (Berth J))) (views : List (View J)) : Type 0 where
    pub home : (t : ℕ) (j : J) → slice_get k.jobs t ≡ Some j → at status t ≢ IN_PROGRESS
        → get_elem? homes t ≡ some (some (Full (job_if (at status t == DONE) t j)))
    pub resting : (id : ℕ) (v : View J) (d : Doing) (j : J) → get_elem? views id ≡ some v → v.doing ≡ Some d
        → d.held ≡ false
        → slice_get k.jobs d.note ≡ Some j
        → get_elem? homes d.note ≡ some (some (Full (job_if (nat_le 1 d.phase) d.note j)))
    pub away : (id : ℕ) (v : View J) (d : Doing) → get_elem? views id ≡ some v → v.doing ≡ Some d → d.held ≡ true
        → get_elem? homes d.note ≡ some none

  -- The Done notes that write a cell are exactly the writers before some note; while no writer is InProgress,
  -- the cell has the value that the serial run has there.
  pub record Kept (status cells : List ℕ) (a : ℕ) : Type 0 where
    pub upto : ℕ
    pub within : upto ≤ k.notes
    pub done : (t : ℕ) → t < upto → writes_at M k t a ≡ true → at status t ≡ DONE
    pub later : (t : ℕ) → upto ≤ t → t < k.notes → writes_at M k t a ≡ true → at status t ≢ DONE
    pub value : ((t : ℕ) → t < k.notes → at status t ≡ IN_PROGRESS → writes_at M k t a ≡ false)
        → signed (at cells a) ≡ cell (before_at M k upto) a

  -- A note's image agrees with the cells that the note uses, and once the note has run, with the cells after
  -- it in the serial run.
  pub record Pictured (cells : List ℕ) (d : Doing) : Type 0 where
    pub long : length d.image ≡ length k.cells
    pub seen : (a : ℕ) → a < length k.cells → uses_at M k d.note a ≡ true → signed (at cells a) ≡ cell d.image a
    pub after : 1 ≤ d.phase → d.image ≡ before_at M k (d.note + 1)

  -- The cells have values of the serial run, and the note of each view that does one sees the right ones.
  pub record Stored (status cells : List ℕ) (views : List (View J)) : Type 0 where
    pub values : (a : ℕ) → a < length k.cells → Kept status cells a
    pub images : (id : ℕ) (v : View J) (d : Doing) → get_elem? views id ≡ some v → v.doing ≡ Some d → Pictured cells d

  -- 1 if a note that is being done has made its turn step on resource r, otherwise 0
  abbrev pub turned_in : ℕ → Option Doing → ℕ
  turned_in r None = 0
  turned_in r (Some d) = one (listed (take (d.phase - 1) (places_written M k d.note)) r)

  -- 1 if the note of the view has made its turn step on resource r, otherwise 0
  abbrev pub turned_on : ℕ → View J → ℕ
  turned_on r v = turned_in r v.doing

  -- how many Done notes write resource r
  abbrev pub done_writers : List ℕ → ℕ → ℕ
  done_writers status r = count_below (λ u. at status u == DONE && listed (places_written M k u) r) k.notes

  -- A turn word is the number of Done notes that write its resource, plus 1 if a note InProgress has made its
  -- turn step there.
  abbrev pub Turned : List ℕ → List ℕ → List (View J) → Type 0
  Turned status turns views =
      (r : ℕ) → r < area_count k → at turns r ≡ done_writers status r + total (turned_on r) views
