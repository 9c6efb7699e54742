-- What a seat knows, and how each kind of step changes it. v and w are views, k a plan, d what a view does; t
-- is a note, p an earlier one, e and i are edges, x is the number of a seat, a an address and z a value. M is
-- what jobs mean.
use Rattle.std.specs.Prelude.{ℕ, zero, suc, ◌+◌, ◌-◌, ℤ, List, [], ◌∷◌, ◌++◌, map, length, take, drop, replicate, true}
use Rattle.std.specs.Prelude.{false, cond, Option, Some, None, ◌==◌, slice_set}
use Rattle.cs_cells.specs.{Areas.word_count, Cells.values, Meaning.Meaning, declared.footprint.Area.Area}
use Rattle.cs_board.specs.{Counts.without, Plans.leads_in, Plans.leads_out, Plans.before_at, declared.view.Berth.Berth}
use Rattle.cs_board.specs.{declared.view.Doing.Doing, declared.view.Plan.Plan, declared.view.Spot.Spot}
use Rattle.cs_board.specs.{declared.view.Still.Still, declared.view.View.View, declared.words.TheConstants.WATCHED}
use Rattle.cs_graph.specs.Graph.{Dependencies}
use Rattle.cs_board.specs.declared.view.Berth.TheVariants.{Vacant, Full, Told}

-- the notes below n to which no edge leads
abbrev pub roots_below : List (ℕ × ℕ) → ℕ → List ℕ
roots_below edges zero = []
roots_below edges (suc n) = cond (leads_in edges n) (roots_below edges n) (n ∷ roots_below edges n)

-- a spot at note p and edge i, if some edge from i on leads from p
abbrev pub closing_from : List (ℕ × ℕ) → ℕ → ℕ → Option Spot
closing_from edges p i = cond (leads_out edges p i) (Some (record { note = p; from = i })) None

-- value z at address a of the image
abbrev pub set_image : Doing → ℕ → ℤ → Doing
set_image d a z = record d { image = slice_set d.image a z }

-- one more turn is made
abbrev pub next_phase : Doing → Doing
next_phase d = record d { phase = d.phase + 1 }

module _ {J : Type 0} where
  -- a seat that knows the plan and has done nothing yet
  abbrev pub newcomer : Plan J → ℕ → View J
  newcomer k x = record {
    plan = k;
    doing = None;
    closing = None;
    moving = None;
    owes = [];
    tries = 0;
    found = [];
    mine = [];
    first = false;
    number = x;
    out = [];
    made = 0;
    spent = false;
    rest = None;
  }

  -- the first seat owes a try for each note that waits for none
  abbrev pub opening_view : Plan J → View J
  opening_view k = record (newcomer k 0) { first = true; owes = roots_below k.edges k.notes }

  -- an empty plan
  abbrev pub no_plan : Plan J
  no_plan = record { notes = 0; edges = []; areas = []; jobs = []; cells = []; spare = 0 }

  -- the one seat of a board that rests, which knows everything on it
  abbrev pub resting_view : List Area → Still J → View J
  resting_view areas w = record (newcomer (record no_plan { areas = areas }) 0) { first = true; rest = Some w }

  -- the view after what it knows about the board has become w
  abbrev pub laid : View J → Still J → View J
  laid v w = record v { rest = Some w }

  -- the board at rest with another value in word i
  abbrev pub with_word : Still J → ℕ → ℕ → Still J
  with_word w i x = record w { words = slice_set w.words i x }

  -- the board at rest with another content in slot t
  abbrev pub with_home : Still J → ℕ → Option (Berth J) → Still J
  with_home w t b = record w { homes = slice_set w.homes t b }

  -- the graph that a step receives
  abbrev pub graph_told : Berth J → Option Dependencies
  graph_told Vacant = None
  graph_told (Full j) = None
  graph_told (Told g) = Some g.value

  -- the view of a seat that was joined
  abbrev pub spent_view : View J
  spent_view = record (newcomer no_plan 0) { spent = true }

  -- i vacant slots, then a slot with each of these jobs, then n vacant slots
  abbrev pub slot_row : ℕ → List J → ℕ → List (Option (Berth J))
  slot_row i jobs n = replicate i (Some Vacant) ++ (map (λ j. Some (Full j)) jobs ++ replicate n (Some Vacant))

  -- the jobs that are in slots
  abbrev pub jobs_laid : List (Option (Berth J)) → List J
  jobs_laid [] = []
  jobs_laid (None ∷ homes) = jobs_laid homes
  jobs_laid (Some Vacant ∷ homes) = jobs_laid homes
  jobs_laid (Some (Full j) ∷ homes) = j ∷ jobs_laid homes
  jobs_laid (Some (Told g) ∷ homes) = jobs_laid homes

  -- the part of all words that holds the cells of this layout
  abbrev pub cells_laid : List Area → Still J → List ℕ
  cells_laid areas w = take (word_count areas) (drop 1 w.words)

  -- the plan of the cycle that can begin with this graph, and with the jobs and cells that are on the board
  abbrev pub plan_laid : List Area → Still J → Dependencies → Plan J
  plan_laid areas w graph = record {
    notes = length (jobs_laid w.homes);
    edges = graph.edges;
    areas = areas;
    jobs = jobs_laid w.homes;
    cells = values (cells_laid areas w);
    spare = length w.words -
        (1 + (word_count areas +
        (length areas + (length (jobs_laid w.homes) + (length (jobs_laid w.homes) + length graph.edges)))));
  }

  -- the view does d
  abbrev pub does : View J → Doing → View J
  does v d = record v { doing = Some d }

  -- a try that found note t other than Available
  abbrev pub missed : View J → ℕ → View J
  missed v t = record v { tries = v.tries + 1; found = v.found ++ (t, v.tries + 1) ∷ []; owes = without t v.owes }

  -- note t is finished, and its edges are to be closed
  abbrev pub ended : View J → ℕ → View J
  ended v t = record v { doing = None; mine = v.mine ++ t ∷ []; closing = closing_from v.plan.edges t 0 }

  -- edge e from note p to note t was closed; if t watched it, t moves on
  abbrev pub shut : View J → ℕ → ℕ → ℕ → ℕ → View J
  shut v e p t found = record v {
    closing = closing_from v.plan.edges p (e + 1);
    moving = cond (found == WATCHED) (Some (record { note = t; from = e + 1 })) None;
  }

  -- no note is being moved any more
  abbrev pub settled : View J → View J
  settled v = record v { moving = None }

  -- the note that is being moved, t, has passed edge e
  abbrev pub passed : View J → ℕ → ℕ → View J
  passed v t e = record v { moving = Some (record { note = t; from = e + 1 }) }

  -- note t was made Available, and a try for it is owed
  abbrev pub opened : View J → ℕ → View J
  opened v t = record v { moving = None; owes = v.owes ++ t ∷ [] }

  -- the first seat's view after a split
  abbrev pub kept_view : View J → View J
  kept_view v = record v { out = v.made ∷ v.out; made = v.made + 1 }

  -- the new seat's view after a split
  abbrev pub given_view : View J → View J
  given_view v = newcomer v.plan v.made

  -- the first seat's view after it has joined another seat
  abbrev pub joined : View J → View J → View J
  joined v w = record v { mine = v.mine ++ w.mine; out = without w.number v.out }

module _ {J : Type 0} (M : Meaning J) where
  -- note t when it begins, with the cells before it in the serial run
  abbrev pub fresh : Plan J → ℕ → Doing
  fresh k t = record { note = t; phase = 0; held = false; image = before_at M k t }

  -- the seat has claimed note t
  abbrev pub began : View J → ℕ → View J
  began v t = record v { doing = Some (fresh v.plan t); tries = v.tries + 1; owes = without t v.owes }
