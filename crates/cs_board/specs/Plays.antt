-- What each kind of step lets the worker that makes it know: how the view before, the number found and the
-- view after are related. st is the step, m the seat before it, r the number found in the word, n the seat
-- after it; d is what the seat does, t its note, e an edge from note p to note t, j a job, a an address, x
-- the index of a resource. M is what jobs mean.
use Rattle.std.specs.Prelude.{◌≡◌, ◌≢◌, ℕ, ◌+◌, ◌<◌, [], ◌∷◌, length, Some, None, true, false, slice_get}
use mathlib.Core.Option.{some}
use Rattle.atomic_table.specs.Table.{Me, Step, rest}
use Rattle.cs_cells.specs.{Cells.cell, Cells.signed, Meaning.Meaning}
use Rattle.cs_graph.specs.Graph.{Edge, Dependencies}
use Rattle.cs_board.specs.{Facts.turned_in, Counts.listed, Words.at, Words.status_at, Words.watch_at, Words.turn_at}
use Rattle.cs_board.specs.{Words.cell_at, declared.view.Doing.Doing, Ending.IsOver, declared.view.Berth.Berth}
use Rattle.cs_board.specs.{declared.view.Berth.TheVariants.Full, declared.view.Still.Still, declared.view.View.View}
use Rattle.cs_board.specs.Plans.{uses_at, places_used, writers_before, area_count}
use Rattle.cs_board.specs.Views.{does, set_image, next_phase, began, missed, ended, shut, settled, passed, opened, laid}
use Rattle.cs_board.specs.Views.{with_word, with_home, graph_told, plan_laid, opening_view, resting_view}
use Rattle.cs_board.specs.declared.words.TheConstants.{AVAILABLE, IDLE}

-- a seat's view with the slots that it has taken; a relation between a step, the seat before it, the number
-- found and the seat after it
abbrev pub Sat : Type 0 → Type 0
Sat J = Me (Berth J) (View J)

-- a relation between a step, the seat before it, the number found and the seat after it
abbrev pub Tells : Type 0 → Type 1
Tells J = Step (Berth J) → Sat J → ℕ → Sat J → Type 0

module _ {J : Type 0} where
  -- the job is out of its slot
  abbrev pub took : Tells J
  took st m r n = (d : Doing) (j : J) → m.0.doing ≡ Some d → slice_get m.0.plan.jobs d.note ≡ Some j → d.phase ≡ 0
      → n ≡ (does m.0 (record d { held = true }), (d.note, Full j) ∷ m.1)

  -- the job is back in its slot
  abbrev pub gave : Tells J
  gave st m r n = (d : Doing) → m.0.doing ≡ Some d → n ≡ (does m.0 (record d { held = false }), rest m.1)

  -- the cell is set, in the note's image too
  abbrev pub set_cell : Tells J
  set_cell st m r n = (a : ℕ) (d : Doing) → st.word ≡ cell_at a → m.0.doing ≡ Some d
      → n ≡ (does m.0 (set_image d a (signed st.first)), m.1)

  -- one more turn of the note is counted
  abbrev pub turned : Tells J
  turned st m r n = (d : Doing) → m.0.doing ≡ Some d → n ≡ (does m.0 (next_phase d), m.1)

  -- note t is Done, and its edges are to be closed
  abbrev pub finished : Tells J
  finished st m r n = (t : ℕ) → st.word ≡ status_at m.0.plan t → n ≡ (ended m.0 t, m.1)

  -- edge e is closed, and the watch word before it was found
  abbrev pub closed : Tells J
  closed st m r n = (e p t : ℕ) → st.word ≡ watch_at m.0.plan e → Edge m.0.plan.edges e p t
      → n ≡ (shut m.0 e p t r, m.1)

  -- note t watches edge e, or has passed it if it was found Closed
  abbrev pub watched : Tells J
  watched st m r n = (e p t : ℕ) → st.word ≡ watch_at m.0.plan e → Edge m.0.plan.edges e p t
      → (r ≡ IDLE → n ≡ (settled m.0, m.1)) × (r ≢ IDLE → n ≡ (passed m.0 t e, m.1))

  -- note t becomes Available, and the seat owes a try for it
  abbrev pub opens : Tells J
  opens st m r n = (t : ℕ) → st.word ≡ status_at m.0.plan t → n ≡ (opened m.0 t, m.1)

  -- note t is Available, or the try failed
  abbrev pub looked_status : Tells J
  looked_status st m r n = (t : ℕ) → st.word ≡ status_at m.0.plan t
      → (r ≡ AVAILABLE → n ≡ m) × (r ≢ AVAILABLE → n ≡ (missed m.0 t, m.1))

  -- a word is set while the board rests
  abbrev pub lays : Tells J
  lays st m r n = (w : Still J) → m.0.rest ≡ Some w → n ≡ (laid m.0 (with_word w st.word st.first), m.1)

  -- a word is read while the board rests
  abbrev pub reads : Tells J
  reads st m r n = (n ≡ m) × ((w : Still J) → m.0.rest ≡ Some w → r ≡ at w.words st.word)

  -- the content of a slot is taken out while the board rests
  abbrev pub reaches : Tells J
  reaches st m r n = (w : Still J) (b : Berth J) → m.0.rest ≡ Some w → slice_get w.homes st.word ≡ Some (Some b)
      → n ≡ (laid m.0 (with_home w st.word None), (st.word, b) ∷ m.1)

  -- what was taken from a slot is put back while the board rests
  abbrev pub leaves : Tells J
  leaves st m r n = (w : Still J) (t : ℕ) (b : Berth J) → m.0.rest ≡ Some w → m.1 ≡ (t, b) ∷ []
      → n ≡ (laid m.0 (with_home w t (Some b)), [])

  -- begins the cycle of these jobs on these cells
  abbrev pub begins : Tells J
  begins st m r n = (w : Still J) (b : Berth J) (graph : Dependencies) → m.0.rest ≡ Some w → st.said ≡ some b
      → graph_told b ≡ Some graph
      → n ≡ (opening_view (plan_laid m.0.plan.areas w graph), m.1)

module _ {J : Type 0} (M : Meaning J) where
  -- note t was Available and now belongs to this seat, or it was found otherwise
  abbrev pub claimed : Tells J
  claimed st m r n = (t : ℕ) → st.word ≡ status_at m.0.plan t
      → (r ≡ AVAILABLE → n ≡ (began M m.0 t, m.1)) × (r ≢ AVAILABLE → n ≡ (missed m.0 t, m.1))

  -- the value found in the cell is the image's
  abbrev pub looked : Tells J
  looked st m r n = (n ≡ m) × ((a : ℕ) (d : Doing) → st.word ≡ cell_at a → a < length m.0.plan.cells
      → m.0.doing ≡ Some d → uses_at M m.0.plan d.note a ≡ true → signed r ≡ cell d.image a)

  -- the turn word found counts the earlier notes that write the resource, and this note after its own turn
  -- there
  abbrev pub looked_turn : Tells J
  looked_turn st m r n = (n ≡ m) × ((x : ℕ) (d : Doing) → st.word ≡ turn_at m.0.plan x → x < area_count m.0.plan
      → m.0.doing ≡ Some d → listed (places_used M m.0.plan d.note) x ≡ true
      → r ≡ writers_before M m.0.plan d.note x + turned_in M m.0.plan x m.0.doing)

  -- the board rests, with the result of the serial run
  abbrev pub ends : Tells J
  ends st m r n = (w : Still J) × IsOver m.0.plan M w × (length w.homes ≡ st.slots)
      × (n ≡ (resting_view m.0.plan.areas w, m.1))
