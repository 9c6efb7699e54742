-- A seat after a step, and the counts of the board.
use Rattle.std.proofs.lemmas.{Grind.common_steps, Bool.cases_eq}
use Rattle.std.proofs.Common.{◌≡◌, ℕ, zero, suc, ◌<◌, List, [], ◌∷◌, length, Bool, true, false, Some, refl, sym, ap}
use Rattle.std.proofs.Common.{subst, arith, slice_get, eqb, eq-eqb, ne_eqb}
use mathlib.Core.Option.{none}
use Rattle.atomic_table.specs.{Table.step, declared.shared.Seat.Seat}
use Rattle.cs_board.specs.{Board.plan, Board.IsViewOf, declared.board.Board.Board, Views.does, Views.ended, Views.shut}
use Rattle.cs_board.specs.{Views.opened, Words.watch_at, Words.status_at, declared.view.Berth.Berth}
use Rattle.cs_board.specs.{declared.view.Doing.Doing, declared.view.Plan.Plan, declared.view.View.View}
use Rattle.cs_board.specs.inner.Sittings.{IsSittingOf, seen, tried, stopped}
use Rattle.cs_cells.specs.Meaning.{Meaning}
use Rattle.cs_graph.specs.Graph.{Edge}
use Rattle.cs_board.specs.Plays.{Sat, claimed, looked_status, watched, closed}
use Rattle.cs_board.proofs.Lists.{times-without_le, times-snoc, same_no}

pub job_there : {J : Type 0} (js : List J) (t : ℕ) → t < length js → (j : J) × (slice_get js t ≡ Some j)
job_there [] t l = absurd (omega arith)
job_there (j ∷ js) zero l = (j, refl)
job_there (j ∷ js) (suc t) l = job_there js t (omega arith)

module _ {J : Type 0} where
  pub view_tried : (M : Meaning J) (k : Plan J) (v : View J) (b : Bool) (t : ℕ) → IsViewOf k v
      → IsViewOf k (tried M b v t)
  view_tried M k v true t h = grind (arith, common_steps, times-without_le)
  view_tried M k v false t h = grind (arith, common_steps, times-without_le)

  pub view_seen : (M : Meaning J) (k : Plan J) (v : View J) (b : Bool) (t : ℕ) → IsViewOf k v → IsViewOf k (seen b v t)
  view_seen M k v true t h = h
  view_seen M k v false t h = view_tried M k v false t h

  pub view_does : (k : Plan J) (v : View J) (d : Doing) → IsViewOf k v → IsViewOf k (does v d)
  view_does k v d h = record { plan = h.plan; live = h.live; owes_in = h.owes_in; playing = h.playing }

  pub view_ended : (k : Plan J) (v : View J) (t : ℕ) → IsViewOf k v → IsViewOf k (ended v t)
  view_ended k v t h = record { plan = h.plan; live = h.live; owes_in = h.owes_in; playing = h.playing }

  pub view_shut : (k : Plan J) (v : View J) (e p t x : ℕ) → IsViewOf k v → IsViewOf k (shut v e p t x)
  view_shut k v e p t x h = record { plan = h.plan; live = h.live; owes_in = h.owes_in; playing = h.playing }

  pub view_stopped : (k : Plan J) (v : View J) (b : Bool) (t e : ℕ) → IsViewOf k v → IsViewOf k (stopped b v t e)
  view_stopped k v true t e h = record { plan = h.plan; live = h.live; owes_in = h.owes_in; playing = h.playing }
  view_stopped k v false t e h = record { plan = h.plan; live = h.live; owes_in = h.owes_in; playing = h.playing }

  pub view_opened : (k : Plan J) (v : View J) (t : ℕ) → t < k.notes → IsViewOf k v → IsViewOf k (opened v t)
  view_opened k v t low h = grind (arith, common_steps, cases_eq, same_no, times-snoc)

  -- a seat of the board after a step
  pub place_after : (M : Meaning J) (b : Board J) (s s' : Seat (Berth J) (View J)) (w : View J) (c : List (ℕ × Berth J))
      → IsSittingOf M b s → s'.table_id ≡ s.table_id → s'.me ≡ (w, c) → IsViewOf (plan b) w → IsSittingOf M b s'
  place_after M b s s' w c h table me knows = grind (arith, common_steps)

module _ {J : Type 0} (M : Meaning J) where
  pub told_tried : (k : Plan J) (slots t r : ℕ) (m n : Sat J) → m.0.plan ≡ k
      → claimed M (step slots (status_at k t) 1 2 none) m r n → n ≡ (tried M (eqb r 1) m.0 t, m.1)
  told_tried k slots t r m n plan_is told = grind (arith, common_steps, cases_eq, eq-eqb, ne_eqb)

module _ {J : Type 0} where
  -- what a seat knows after a look at a status
  pub told_seen : (k : Plan J) (slots t r : ℕ) (m n : Sat J) → m.0.plan ≡ k
      → looked_status (step slots (status_at k t) 0 0 none) m r n → n ≡ (seen (eqb r 1) m.0 t, m.1)
  told_seen k slots t r m n plan_is told = grind (arith, common_steps, cases_eq, eq-eqb, ne_eqb)

  pub told_stopped : (k : Plan J) (slots e q t r : ℕ) (m n : Sat J) → m.0.plan ≡ k → Edge k.edges e q t
      → watched (step slots (watch_at k e) 0 1 none) m r n → n ≡ (stopped (eqb r 0) m.0 t e, m.1)
  told_stopped k slots e q t r m n plan_is edge told = grind (arith, common_steps, cases_eq, eq-eqb, ne_eqb)

  pub told_shut : (k : Plan J) (slots e q t r : ℕ) (m n : Sat J) → m.0.plan ≡ k → Edge k.edges e q t
      → closed (step slots (watch_at k e) 2 0 none) m r n → n ≡ (shut m.0 e q t r, m.1)
  told_shut k slots e q t r m n plan_is edge told =
      told e q t (ap (λ z. watch_at z e) (sym plan_is)) (subst (λ z. Edge z.edges e q t) (sym plan_is) edge)
