-- Each kind of step of a cycle preserves the rule of a complete performance.
use Rattle.std.proofs.Common.{◌≡◌, ℕ, ◌+◌, ◌<◌, ◌≤◌, [], ◌∷◌, length, true, false, Some, None, slice_get, nat_le, eqb}
use mathlib.Core.Option.{none}
use prog.Atomic.{either}
use Rattle.atomic_table.specs.Table.{step, Allows, Splits, Joins}
use Rattle.cs_cells.specs.Meaning.{Meaning, Frames}
use Rattle.cs_graph.specs.Graph.{Edge}
use Rattle.cs_board.specs.{Facts.job_if, Plans.places_written, Plans.before_at, Plans.writers_before, Plans.writes_at}
use Rattle.cs_board.specs.{Plays.finished, Plays.closed, Plays.watched, Plays.opens, Rule.Always, Views.kept_view}
use Rattle.cs_board.specs.{Views.given_view, Views.joined, Views.spent_view, declared.view.Berth.TheVariants.Full}
use Rattle.cs_board.specs.{declared.view.Doing.Doing, declared.view.Plan.Plan, declared.view.View.View}
use Rattle.cs_board.specs.Plays.{Sat, claimed, took, gave, looked, looked_status, set_cell, looked_turn, turned}
use Rattle.cs_board.specs.Words.{at, status_at, watch_at, own_at, turn_at, cell_at}
use Rattle.cs_board.proofs.Rests.{lift, lift_split, lift_join}
use Rattle.cs_board.proofs.Allowed as one
use Rattle.cs_board.proofs.Running as run
use Rattle.cs_board.proofs.Seating as seat

module _ {J : Type 0} (M : Meaning J) (k : Plan J) (F : Frames M) (n id : ℕ) (m : Sat J) (plan : m.0.plan ≡ k)
    (live : m.0.spent ≡ false) (playing : m.0.rest ≡ None) where
  pub claims : (t : ℕ) → t < k.notes → m.0.doing ≡ None → m.0.closing ≡ None → m.0.moving ≡ None
      → Allows (Always M) n id m (status_at k t) (λ y. either (eqb y 1) 2 y)
      (claimed M (step n (status_at k t) 1 2 none) m)
  claims t low idle no_closing no_moving =
      lift M k n id m live playing plan (status_at k t) (λ y. either (eqb y 1) 2 y)
      (claimed M (step n (status_at k t) 1 2 none) m)
      (one.claims M k F n id m plan t low idle no_closing no_moving live)

  pub looks : (a : ℕ) → Allows (Always M) n id m (cell_at a) (λ y. y) (looked M (step n (cell_at a) 0 0 none) m)
  looks a = lift M k n id m live playing plan (cell_at a) (λ y. y) (looked M (step n (cell_at a) 0 0 none) m)
      (one.looks M k F n id m plan a)

  pub looks_at_status : (t : ℕ) → t < k.notes
      → Allows (Always M) n id m (status_at k t) (λ y. y) (looked_status (step n (status_at k t) 0 0 none) m)
  looks_at_status t low = lift M k n id m live playing plan (status_at k t) (λ y. y)
      (looked_status (step n (status_at k t) 0 0 none) m) (one.looks_at_status M k F n id m plan t low live)

  pub looks_at_turn : (r : ℕ)
      → Allows (Always M) n id m (turn_at k r) (λ y. y) (looked_turn M (step n (turn_at k r) 0 0 none) m)
  looks_at_turn r = lift M k n id m live playing plan (turn_at k r) (λ y. y)
      (looked_turn M (step n (turn_at k r) 0 0 none) m) (one.looks_at_turn M k F n id m plan r)

  pub finishes : (d : Doing) → m.0.doing ≡ Some d → d.held ≡ false → d.phase ≡ 1 + length (places_written M k d.note)
      → Allows (Always M) n id m (status_at k d.note) (λ _. 3)
      (λ _. finished (step n (status_at k d.note) 3 0 none) m 3)
  finishes d doing free phase =
      lift M k n id m live playing plan (status_at k d.note) (λ _. 3)
      (λ _. finished (step n (status_at k d.note) 3 0 none) m 3)
      (one.finishes M k F n id m plan d doing free phase live)

  pub closes_edge : (e q t i : ℕ) → Edge k.edges e q t → m.0.closing ≡ Some (record { note = q; from = i })
      → m.0.moving ≡ None → i ≤ e → ((g u : ℕ) → Edge k.edges g q u → i ≤ g → e ≤ g)
      → Allows (Always M) n id m (watch_at k e) (λ _. 2) (closed (step n (watch_at k e) 2 0 none) m)
  closes_edge e q t i edge closing no_moving low first =
      lift M k n id m live playing plan (watch_at k e) (λ _. 2) (closed (step n (watch_at k e) 2 0 none) m)
      (one.closes_edge M k F n id m plan e q t i edge closing no_moving low first live)

  pub watches_edge : (e q t i : ℕ) → Edge k.edges e q t → m.0.moving ≡ Some (record { note = t; from = i }) → i ≤ e
      → ((g r : ℕ) → Edge k.edges g r t → i ≤ g → e ≤ g)
      → Allows (Always M) n id m (watch_at k e) (λ y. either (eqb y 0) 1 y) (watched (step n (watch_at k e) 0 1 none) m)
  watches_edge e q t i edge moving low first =
      lift M k n id m live playing plan (watch_at k e) (λ y. either (eqb y 0) 1 y)
      (watched (step n (watch_at k e) 0 1 none) m)
      (one.watches_edge M k F n id m plan e q t i edge moving low first live)

  pub opens_note : (t i : ℕ) → t < k.notes → m.0.moving ≡ Some (record { note = t; from = i })
      → ((g r : ℕ) → Edge k.edges g r t → g < i)
      → Allows (Always M) n id m (status_at k t) (λ _. 1) (λ _. opens (step n (status_at k t) 1 0 none) m 1)
  opens_note t i low moving last =
      lift M k n id m live playing plan (status_at k t) (λ _. 1) (λ _. opens (step n (status_at k t) 1 0 none) m 1)
      (one.opens_note M k F n id m plan t i low moving last live)

  module _ (d : Doing) (doing : m.0.doing ≡ Some d) where
    pub takes_job : (j : J) → d.phase ≡ 0 → d.held ≡ false → slice_get k.jobs d.note ≡ Some j
        → Allows (Always M) n id m 0 (λ y. y) (took (step n 0 0 0 none) m)
    takes_job j phase free at_ = lift M k n id m live playing plan 0 (λ y. y) (took (step n 0 0 0 none) m)
        (run.takes_job M k F n id m plan live d doing j phase free at_)

    pub gives_job : (j x : J) → m.1 ≡ (d.note, Full x) ∷ [] → slice_get k.jobs d.note ≡ Some j
        → x ≡ job_if M k (nat_le 1 d.phase) d.note j → Allows (Always M) n id m 0 (λ y. y) (gave (step n 0 0 0 none) m)
    gives_job j x carries at_ is = lift M k n id m live playing plan 0 (λ y. y) (gave (step n 0 0 0 none) m)
        (run.gives_job M k F n id m plan live d doing j x carries at_ is)

    module _ (held : d.held ≡ true) where
      pub sets_cell : (a x : ℕ) → d.phase ≡ 0 → writes_at M k d.note a ≡ true
          → Allows (Always M) n id m (cell_at a) (λ _. x) (λ _. set_cell (step n (cell_at a) x 0 none) m x)
      sets_cell a x phase writes =
          lift M k n id m live playing plan (cell_at a) (λ _. x) (λ _. set_cell (step n (cell_at a) x 0 none) m x)
          (run.sets_cell M k F n id m plan live d doing held a x phase writes)

      pub turns_own : d.phase ≡ 0 → d.image ≡ before_at M k (d.note + 1)
          → Allows (Always M) n id m (own_at k d.note) (λ _. 1) (λ _. turned (step n (own_at k d.note) 1 0 none) m 1)
      turns_own phase ran = lift M k n id m live playing plan (own_at k d.note) (λ _. 1)
          (λ _. turned (step n (own_at k d.note) 1 0 none) m 1)
          (run.turns_own M k F n id m plan live d doing held phase ran)

      pub turns_on : (i r x : ℕ) → d.phase ≡ i + 1 → i < length (places_written M k d.note)
          → at (places_written M k d.note) i ≡ r → x ≡ writers_before M k d.note r + 1
          → Allows (Always M) n id m (turn_at k r) (λ _. x) (λ _. turned (step n (turn_at k r) x 0 none) m x)
      turns_on i r x phase low is next =
          lift M k n id m live playing plan (turn_at k r) (λ _. x) (λ _. turned (step n (turn_at k r) x 0 none) m x)
          (run.turns_on M k F n id m plan live d doing held i r x phase low is next)

module _ {J : Type 0} (M : Meaning J) (k : Plan J) where
  pub splits : (id : ℕ) (v : View J) → v.first ≡ true → v.spent ≡ false → v.rest ≡ None → v.plan ≡ k
      → Splits (Always M) id v (kept_view v) (given_view v)
  splits id v first live playing plan =
      lift_split M k id v (kept_view v) (given_view v) live playing plan (seat.splits M k id v first live plan)

  pub joins : (id : ℕ) (v : View J) (other : ℕ) (u : View J) → v.first ≡ true → v.spent ≡ false → v.rest ≡ None
      → v.plan ≡ k → u.spent ≡ false → u.doing ≡ None → u.closing ≡ None → u.moving ≡ None → u.owes ≡ []
      → Joins (Always M) id v other u (joined v u) spent_view
  joins id v other u first live playing plan live' idle no_closing no_moving no_owes =
      lift_join M k id v other u (joined v u) spent_view live playing plan
      (seat.joins M k id v other u first live live' idle no_closing no_moving no_owes)
