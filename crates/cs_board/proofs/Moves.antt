-- A watcher watches its next edge, or is opened: these steps preserve the facts.
use Rattle.std.proofs.Common.{◌≡◌, ◌≢◌, ℕ, ◌+◌, ◌<◌, ◌≤◌, inl, inr, ⊎_elim, List, length, set, false, Some, None, refl}
use Rattle.std.proofs.Common.{sym, ap, ◌∙◌, subst, arith}
use Rattle.std.proofs.lemmas.Bool.{cases_eq, cases_lt}
use mathlib.Core.Option.{some}
use lib.ListN.{get_elem?}
use Rattle.cs_cells.specs.Meaning.{Meaning, Frames}
use Rattle.cs_graph.specs.Graph.{Edge}
use Rattle.cs_board.specs.{Counts.same, Counts.total, Plans.IsPlan, Rule.Facts, Words.Words, Words.at, Words.IsSized}
use Rattle.cs_board.specs.{declared.view.Berth.Berth, declared.view.Plan.Plan, declared.view.View.View}
use Rattle.cs_board.specs.Facts.{spot_on, spot_at, moves, moves_at, owed, Waits}
use Rattle.cs_board.specs.Views.{settled, passed, opened}
use Rattle.cs_board.proofs.{Begins.three_still, Does.alike, Slots.slots_status, Stores.stored_step, Turns.turned_still}
use Rattle.cs_board.proofs.Ends.{facts_aside, waits_moved, one_target, edge_below, not_doing, moved_waits, moved_in}
use Rattle.cs_board.proofs.Ends.{moved_at, others_moves}
use Rattle.cs_board.proofs.Groups.{gates_status, gates_watch, sane_live, sane_step, doers_step, watches_step}
use Rattle.cs_board.proofs.Groups.{tallied_step, seats_step, owned_step, total_keeps}
use Rattle.cs_board.proofs.Lists.{same_yes, same_no, put_cases, put_counts, total-set, total_gap, times-snoc}
use Rattle.cs_board.proofs.Spots.{on_here, on_else, at_here, at_else, at_apart, at_less}
use mathlib.Core.Option as maybe

module _ {J : Type 0} (M : Meaning J) (F : Frames M) (k : Plan J) (plan : IsPlan M k) (p : Words) (sized : IsSized k p)
    (hs : List (maybe.Option (Berth J))) (vs : List (View J)) (id : ℕ) (v : View J) (here : get_elem? vs id ≡ some v)
    (f : Facts M k p hs vs)
    (t i : ℕ) (moving : v.moving ≡ Some (record { note = t; from = i })) (live : v.spent ≡ false) where
  idle : v.doing ≡ None
  idle = not_doing M F k plan p sized hs vs id v here f (record { note = t; from = i }) (inr moving)

  waiting : at p.status t ≡ 0
  waiting = moved_waits M F k plan p sized hs vs id v here f t i moving

  within : t < k.notes
  within = moved_in M F k plan p sized hs vs id v here f t i moving

  h : Waits k p.watch vs t
  h = f.watches.waits t within waiting

  known : ((q : ℕ) → Edge k.edges h.edge q t → at p.watch h.edge ≢ 1) × (total (moves t) vs ≡ 1) × (h.edge ≡ i)
  known = moved_at M F k plan p sized hs vs id v here f t i moving h

  mine : moves t v ≡ 1
  mine = ap (spot_on t) moving ∙ on_here t i

  others : (u j : ℕ) → u ≢ t → (moves u v ≡ 0) × (moves_at u j v ≡ 0)
  others u j n = others_moves M F k plan p sized hs vs id v here f t i moving u j n

  not_t : (u : ℕ) → at p.status u ≢ 0 → u ≢ t
  not_t u n e = n (ap (at p.status) e ∙ waiting)

  not_in : (u : ℕ) → k.notes ≤ u → u ≢ t
  not_in u n e = omega (arith, within)

  -- the edge was Idle and is Watched
  pub facts_settled : (e q : ℕ) → Edge k.edges e q t → i ≤ e → ((g r : ℕ) → Edge k.edges g r t → i ≤ g → e ≤ g)
      → at p.watch e ≡ 0
      → Facts M k (record p { watch = set p.watch e 1 }) hs (set vs id (settled v))
  facts_settled e q edge low first found =
      facts_aside M F k plan p sized hs vs id v here f w (set p.watch e 1) idle idle refl refl refl refl (λ x. refl)
      refl refl (gates_watch k p.status p.watch e 1 near f.gates (omega arith) (λ z. absurd (omega arith))
      (λ z. absurd (omega arith)))
      (λ s. sane_live k v w live refl refl refl refl refl (inl idle) s.owes_in s)
      (watches_step k vs id v w here p.status p.status p.watch (set p.watch e 1)
      (λ r. omega arith)
      (λ g r u edge' d. inr (inr (
        d,
        (λ c. ⊎_elim (λ y. absurd (let z : at p.watch g ≡ 0 = ap (at p.watch) y.0 ∙ found in omega arith))
            (λ y. y.1 ∙ c) (put_cases p.watch e 1 g near)),
        omega arith,
      )))
      (λ u l z. ⊎_elim
      (λ (s : u ≡ t). subst (Waits k (set p.watch e 1) (set vs id w)) (sym s) watching)
      (λ (n : u ≢ t). waits_moved M F k plan p sized hs vs id v here f w (set p.watch e 1) u
      (λ g r edge'. ⊎_elim (λ y. absurd
      (n (one_target M F k plan p sized hs vs id v here f e r u q t (subst (λ x. Edge k.edges x r u) y.0 edge') edge)))
      (λ y. y.1) (put_cases p.watch e 1 g near))
      (sym (others u 0 n).0) (λ j. sym (others u j n).1) (f.watches.waits u l z)) (cases_eq u t))
      (λ u n. total_keeps k vs id v w here (moves u) (sym (others u 0 (not_t u n)).0) ∙ f.watches.calm u n)
      (λ u n. total_keeps k vs id v w here (moves u) (sym (others u 0 (not_in u n)).0) ∙ f.watches.moving_in u n)
      f.watches)
    where
      w : View J
      w = settled v

      near : e < length p.watch
      near = edge_below M F k plan p sized hs vs id v here f e q t edge

      watching : Waits k (set p.watch e 1) (set vs id w) t
      watching = record {
        edge = e;
        before = λ g r edge' l. ⊎_elim (λ y. absurd (omega (arith, y.0)))
            (λ y. ⊎_elim
            (λ (m : g < i). y.1 ∙ h.before g r edge' (omega (arith, known.2)))
            (λ (m : i ≤ g). absurd (omega (arith, first g r edge' m))) (cases_lt g i)) (put_cases p.watch e 1 g near);
        after = λ g r edge' l x. ⊎_elim (λ y. omega (arith, y.0))
            (λ y. h.after g r edge' (omega (arith, known.2)) (sym y.1 ∙ x)) (put_cases p.watch e 1 g near);
        who = inl (
          q,
          edge,
          ⊎_elim (λ y. y.1) (λ y. absurd (y.0 refl)) (put_cases p.watch e 1 e near),
          omega (arith, total-set (moves t) vs id v w here, known.1, mine),
        );
        some_edge = (e, q, edge);
      }

  -- the edge was Closed already
  pub facts_passed : (e q : ℕ) → Edge k.edges e q t → i ≤ e → ((g r : ℕ) → Edge k.edges g r t → i ≤ g → e ≤ g)
      → at p.watch e ≢ 0 → Facts M k p hs (set vs id (passed v t e))
  facts_passed e q edge low first found =
      facts_aside M F k plan p sized hs vs id v here f w p.watch idle idle refl refl refl refl (λ x. refl) refl refl
      f.gates
      (λ s. sane_live k v w live refl refl refl refl refl (inl idle) s.owes_in s)
      (watches_step k vs id v w here p.status p.status p.watch p.watch
      (λ r. omega arith)
      (λ g r u edge' d. inr (inr (d, (λ c. c), omega arith)))
      (λ u l z. ⊎_elim
      (λ (s : u ≡ t). subst (Waits k p.watch (set vs id w)) (sym s) further)
      (λ (n : u ≢ t). waits_moved M F k plan p sized hs vs id v here f w p.watch u (λ g r edge'. refl)
      (on_else t u (e + 1) (λ y. n (sym y)) ∙ sym (others u 0 n).0)
      (λ j. at_else t u (e + 1) j (λ y. n (sym y)) ∙ sym (others u j n).1) (f.watches.waits u l z)) (cases_eq u t))
      (λ u n. let m = not_t u n in total_keeps k vs id v w here (moves u)
      (on_else t u (e + 1) (λ y. m (sym y)) ∙ sym (others u 0 m).0) ∙ f.watches.calm u n)
      (λ u n. let m = not_in u n in total_keeps k vs id v w here (moves u)
      (on_else t u (e + 1) (λ y. m (sym y)) ∙ sym (others u 0 m).0) ∙ f.watches.moving_in u n) f.watches)
    where
      w : View J
      w = passed v t e

      not_watched : at p.watch e ≢ 1
      not_watched c = ⊎_elim
          (λ (s : h.edge ≡ e). known.0 q (subst (λ x. Edge k.edges x q t) (sym s) edge) (ap (at p.watch) s ∙ c))
          (λ (n : h.edge ≢ e). h.after e q edge (omega (arith, known.2)) c) (cases_eq h.edge e)

      closed : at p.watch e ≡ 2
      closed = omega (arith, f.gates.watches e, not_watched)

      further : Waits k p.watch (set vs id w) t
      further =
          let not_there : moves_at t (e + 1) v ≡ 0 =
          ap (spot_at t (e + 1)) moving ∙ at_apart t i (e + 1) (λ z. omega arith) in
          record {
            edge = e + 1;
            before = λ g r edge' l. ⊎_elim
                (λ (m : g < i). h.before g r edge' (omega (arith, known.2)))
                (λ (m : i ≤ g). let s : g ≡ e = omega (arith, first g r edge' m) in ap (at p.watch) s ∙ closed)
                (cases_lt g i);
            after = λ g r edge' l. h.after g r edge' (omega (arith, known.2));
            who = inr (
              (λ r edge'. h.after (e + 1) r edge' (omega (arith, known.2))),
              omega (arith, total-set (moves t) vs id v w here, known.1, mine, on_here t (e + 1)),
              omega (
                arith,
                total-set (moves_at t (e + 1)) vs id v w here,
                total_gap (moves_at t (e + 1)) (moves t) vs id v
                    (λ x. at_less t (e + 1) x.moving) here,
                known.1,
                mine,
                not_there,
                at_here t (e + 1),
              ),
            );
            some_edge = (e, q, edge);
          }

  -- the note has passed all edges into it and is Available
  pub facts_opened : ((g r : ℕ) → Edge k.edges g r t → g < i)
      → Facts M k (record p { status = set p.status t 1 }) hs (set vs id (opened v t))
  facts_opened last =
      let w : View J = opened v t in
      let st' : List ℕ = set p.status t 1 in
      let near : t < length p.status = omega (arith, within, sized.status) in
      let gone : total (moves t) (set vs id w) ≡ 0 = omega (arith, total-set (moves t) vs id v w here, known.1, mine) in
      record {
        gates = gates_status k p.status p.watch t 1 near f.gates (omega arith)
            (λ n e q edge. h.before e q edge (omega (arith, last e q edge, known.2)))
            (λ z. absurd (omega (arith, waiting)));
        sane = sane_step k vs id v w here (λ s. sane_live k v w live refl refl refl refl refl (inl idle)
            (λ u some_. ⊎_elim
            (λ (e : u ≡ t). omega (arith, within))
            (λ (n : u ≢ t). s.owes_in u (omega (arith, some_, times-snoc u v.owes t, same_no t u (λ z. n (sym z)))))
            (cases_eq u t)) s) f.sane;
        doers = doers_step k vs id v w here p.status st' (λ u. omega
            (arith, put_counts p.status t 1 0 2 u near waiting)) f.doers;
        watches = watches_step k vs id v w here p.status st' p.watch p.watch
            (λ r. omega (arith, three_still p.status t 1 0 near waiting refl r))
            (λ g r u edge d. inr (inr (
              ⊎_elim (λ y. absurd (omega (arith, y.1))) (λ y. sym y.1 ∙ d) (put_cases p.status t 1 r near),
              (λ c. c),
              omega arith,
            )))
            (λ u l z. ⊎_elim
            (λ y. absurd (omega (arith, y.1)))
            (λ y. waits_moved M F k plan p sized hs vs id v here f w p.watch u (λ g r edge. refl) (sym
            (others u 0 y.0).0)
            (λ j. sym (others u j y.0).1) (f.watches.waits u l (sym y.1 ∙ z))) (put_cases p.status t 1 u near))
            (λ u n. ⊎_elim
            (λ y. ap (λ x. total (moves x) (set vs id w)) y.0 ∙ gone)
            (λ y. total_keeps k vs id v w here (moves u) (sym (others u 0 y.0).0) ∙ f.watches.calm u (λ z. n (y.1 ∙ z)))
            (put_cases p.status t 1 u near))
            (λ u n. total_keeps k vs id v w here (moves u) (sym (others u 0 (not_in u n)).0) ∙ f.watches.moving_in u n)
            f.watches;
        tallied = tallied_step k vs id v w here p.status st'
            (λ u z. let more : owed u w ≡ owed u v + same t u = times-snoc u v.owes t in ⊎_elim
            (λ y. inl (omega (arith, same_yes t u (sym y.0))))
            (λ y. inr (sym y.1 ∙ z, omega arith)) (put_cases p.status t 1 u near))
            (λ u q l root. inl q)
            (λ u z. ⊎_elim (λ y. absurd (let a : at p.status u ≡ 0 = ap (at p.status) y.0 ∙ waiting in omega arith))
            (λ y. omega (arith, y.1)) (put_cases p.status t 1 u near))
            (λ u. omega (arith, three_still p.status t 1 0 near waiting refl u)) f.tallied;
        seats = seats_step k vs id v w here refl (λ x. refl) refl refl f.seats;
        owned = owned_step k vs id v w here p.status st' p.own p.own
            (λ u. omega (arith, three_still p.status t 1 0 near waiting refl u)) f.owned;
        slots = slots_status M k vs id v w here p.status hs t 1 0 near waiting (λ z. omega arith) refl
            (λ d j e free at_. absurd (let z : Some d ≡ None = sym e ∙ idle in cc))
            (λ d e held. absurd (let z : Some d ≡ None = sym e ∙ idle in cc)) f.slots;
        stored = stored_step M F k plan p.status p.watch p.cells vs id v w here f.gates st'
            (alike p.status t 1 0 near waiting refl)
            (λ u z. ⊎_elim (λ y. absurd (let a : at p.status u ≡ 0 = ap (at p.status) y.0 ∙ waiting in omega arith))
            (λ y. y.1 ∙ z) (put_cases p.status t 1 u near))
            (λ d e. absurd (let z : Some d ≡ None = sym e ∙ idle in cc)) f.stored;
        turned = turned_still M k p.status vs id v w here st' p.turns (alike p.status t 1 0 near waiting refl)
            (λ r. refl) f.turned;
      }
