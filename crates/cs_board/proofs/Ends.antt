-- A note becomes Done, and its watchers move on: these steps preserve the facts.
use Rattle.std.proofs.lemmas.{Grind.common_steps, Bool.cases_eq, Bool.cases_lt}
use Rattle.std.proofs.Common.{◌≡◌, ◌≢◌, ℕ, ◌+◌, ◌<◌, ◌≤◌, ◌⊎◌, inl, inr, ⊎_elim, List, length, set, Bool, true, false}
use Rattle.std.proofs.Common.{cond, Some, None, refl, sym, ap, ◌∙◌, subst, arith, ◌==◌, ◌&&◌, nat_le, slice_get, eq-eqb}
use Rattle.std.proofs.Common.{ne_eqb, le-leb}
use Rattle.std.proofs.lemmas.Option.{same_Some, slice_get_within}
use mathlib.Core.Option.{some}
use lib.ListN.{get_elem?}
use Rattle.cs_cells.specs.Meaning.{Meaning, Frames}
use Rattle.cs_graph.specs.Graph.{Edge}
use Rattle.cs_board.specs.Counts.{one, same, times, total}
use Rattle.cs_board.specs.Facts.{doing_on, ran_on, spot_on, spot_by, spot_at, turned_in, closes, closes_by, moves}
use Rattle.cs_board.specs.Facts.{moves_at, is_first, numbered, Gates, IsSane, Waits, Watches}
use Rattle.cs_board.specs.{Plans.IsPlan, Plans.places_written, Rule.Facts, Views.ended, Views.shut, Words.Words}
use Rattle.cs_board.specs.{Words.at, Words.IsSized, declared.view.Berth.Berth, declared.view.Doing.Doing}
use Rattle.cs_board.specs.{declared.view.Plan.Plan, declared.view.Spot.Spot, declared.view.View.View}
use Rattle.cs_board.proofs.{Does.busy, Lists.times-snoc, Lists.within_of, Slots.slots_step, Slots.slots_done}
use Rattle.cs_board.proofs.{Spots.closing_on, Turns.turned_still, Turns.turned_done}
use Rattle.cs_board.proofs.Groups.{gates_status, gates_watch, sane_live, sane_step, doers_step, waits_still}
use Rattle.cs_board.proofs.Groups.{watches_step, tallied_step, seats_step, owned_step, total_keeps}
use Rattle.cs_board.proofs.Lists.{same_cases, put_cases, put_counts, total-set, total_le, total_more, total_tight}
use Rattle.cs_board.proofs.Spots.{on_here, on_else, by_else, by_later, at_here, at_else, at_from, at_less, closing_by}
use Rattle.cs_board.proofs.Stores.{stored_step, stored_done}
use mathlib.Core.Option as maybe

one_and : (b : Bool) → one (b && true) ≡ one b
one_and true = refl
one_and false = refl

module _ {J : Type 0} (M : Meaning J) (F : Frames M) (k : Plan J) (plan : IsPlan M k) (p : Words) (sized : IsSized k p)
    (hs : List (maybe.Option (Berth J))) (vs : List (View J)) (id : ℕ) (v : View J) (here : get_elem? vs id ≡ some v)
    (f : Facts M k p hs vs) where
  -- a view that closes or moves a note does no note
  pub not_doing : (s : Spot) → (v.closing ≡ Some s) ⊎ (v.moving ≡ Some s) → v.doing ≡ None
  not_doing s h = grind (arith, common_steps)

  pub free_to_close : (d : Doing) → v.doing ≡ Some d → (v.closing ≡ None) × (v.moving ≡ None)
  free_to_close d doing = ⊎_elim (λ none. absurd (let e : Some d ≡ None = sym doing ∙ none in cc)) (λ both. both)
      ((f.sane id v here).one_duty)

  -- the note has run, its turns are made and its job is back in its slot: it becomes Done
  pub facts_ended : (d : Doing) → v.plan ≡ k → v.doing ≡ Some d → d.held ≡ false
      → d.phase ≡ 1 + length (places_written M k d.note) → v.spent ≡ false
      → Facts M k (record p { status = set p.status d.note 3 }) hs (set vs id (ended v d.note))
  facts_ended d v_plan doing free phase live =
      let w : View J = ended v d.note in
      let st : List ℕ = p.status in
      let st' : List ℕ = set p.status d.note 3 in
      let running : at p.status d.note ≡ 2 = busy k p.status vs f.doers id v d here doing in
      let near : d.note < length p.status = within_of p.status d.note (λ z. omega (arith, running)) in
      let within : d.note < k.notes = omega (arith, near, sized.status) in
      let duty : (v.closing ≡ None) × (v.moving ≡ None) = free_to_close d doing in
      let has_run : nat_le 1 d.phase ≡ true = le-leb 1 d.phase (omega arith) in
      record {
        gates = gates_status k st p.watch d.note 3 near f.gates (omega arith)
            (λ n e q edge. f.gates.closed e q d.note edge (λ z. omega (arith, running))) (λ z. refl);
        sane = sane_step k vs id v w here (λ s. sane_live k v w live refl refl refl refl refl (inl refl) s.owes_in s)
            f.sane;
        doers = doers_step k vs id v w here st st'
            (λ u. omega (arith, put_counts st d.note 3 2 2 u near running, ap (doing_on u) doing)) f.doers;
        watches = watches_step k vs id v w here st st' p.watch p.watch
            (λ q. let low = closing_on v.plan.edges d.note 0 q in
            omega (arith, put_counts st d.note 3 2 3 q near running, low, ap (spot_on q) duty.0))
            (λ e q t edge z. ⊎_elim
            (λ h. let edge' : Edge v.plan.edges e d.note t =
            subst (λ x. Edge x e d.note t) (sym (ap (λ y. y.edges) v_plan)) (subst
            (λ x. Edge k.edges e x t) h.0 edge) in
            inr (inl (subst (λ x. 0 < closes_by x e w) (sym h.0)
            (omega (arith, closing_by v.plan.edges e d.note t 0 edge' (omega arith))))))
            (λ h. inr (inr (sym h.1 ∙ z, λ c. c, omega (arith, ap (spot_by q e) duty.0))))
            (put_cases st d.note 3 q near))
            (λ t low z. waits_still k vs id v w here p.watch t refl
            (f.watches.waits t low (⊎_elim (λ h. absurd (omega (arith, h.1, z))) (λ h. sym h.1 ∙ z)
            (put_cases st d.note 3 t near))))
            (λ t n. total_keeps k vs id v w here (moves t) refl ∙ f.watches.calm t (λ z. ⊎_elim
            (λ h. let a : at st t ≡ 2 = ap (at st) h.0 ∙ running in omega arith)
            (λ h. n (h.1 ∙ z)) (put_cases st d.note 3 t near)))
            (λ t n. total_keeps k vs id v w here (moves t) refl ∙ f.watches.moving_in t n) f.watches;
        tallied = tallied_step k vs id v w here st st'
            (λ u z. ⊎_elim (λ h. absurd (omega (arith, h.1, z))) (λ h. inr (sym h.1 ∙ z, omega arith))
            (put_cases st d.note 3 u near))
            (λ u q l root. inl q)
            (λ u z. ⊎_elim (λ h. omega (arith, h.1)) (λ h. omega (arith, h.1)) (put_cases st d.note 3 u near))
            (λ u. omega (arith, put_counts st d.note 3 2 3 u near running, times-snoc u v.mine d.note)) f.tallied;
        seats = seats_step k vs id v w here refl (λ x. refl) refl refl f.seats;
        owned = owned_step k vs id v w here st st' p.own p.own
            (λ u. let mine = ap (ran_on u) doing ∙ ap (λ b. one (d.note == u && b)) has_run ∙ one_and (d.note == u) in
            omega (arith, put_counts st d.note 3 2 3 u near running, mine)) f.owned;
        slots = slots_done M k vs id v w here st hs d near running doing free has_run refl f.slots;
        stored = stored_done M F k plan st p.watch p.cells vs id v w here f.gates d f.doers doing
            (omega arith) refl near within f.stored;
        turned = turned_done M k st vs id v w here p.turns d doing refl running near within phase f.turned;
      }

  -- a step that changes only one watch word, and what the view closes or moves
  pub facts_aside : (w : View J) (wt' : List ℕ) → v.doing ≡ None → w.doing ≡ None → w.owes ≡ v.owes → w.found ≡ v.found
      → w.mine ≡ v.mine
      → is_first w ≡ is_first v → ((x : ℕ) → numbered x w ≡ numbered x v) → w.out ≡ v.out → w.made ≡ v.made
      → Gates k p.status wt' → (IsSane k v → IsSane k w) → Watches k p.status wt' (set vs id w)
      → Facts M k (record p { watch = wt' }) hs (set vs id w)
  facts_aside w wt' idle idle' owes found mine lead number out made gates sane watches = record {
    gates = gates;
    sane = sane_step k vs id v w here sane f.sane;
    doers = doers_step k vs id v w here p.status p.status
        (λ u. ap (λ o. doing_on u o + same (at p.status u) 2) (idle' ∙ sym idle)) f.doers;
    watches = watches;
    tallied = tallied_step k vs id v w here p.status p.status (λ u z. inr (z, omega (arith, ap (times u) owes)))
        (λ u q l root. inl (q.0, q.1, subst (λ x. slice_get x q.0 ≡ Some (u, q.1)) found q.2)) (λ u z. z)
        (λ u. omega (arith, ap (times u) mine)) f.tallied;
    seats = seats_step k vs id v w here lead number out made f.seats;
    owned = owned_step k vs id v w here p.status p.status p.own p.own
        (λ u. omega (arith, ap (ran_on u) (idle' ∙ sym idle))) f.owned;
    slots = slots_step M k vs id v w here p.status p.status hs hs f.slots.home
        (λ d j e free at_. absurd (let z : Some d ≡ None = sym e ∙ idle' in cc))
        (λ d e held. absurd (let z : Some d ≡ None = sym e ∙ idle' in cc)) (λ i y d n e z. refl) f.slots;
    stored = stored_step M F k plan p.status p.watch p.cells vs id v w here f.gates p.status (λ u. refl) (λ u z. z)
        (λ d e. absurd (let z : Some d ≡ None = sym e ∙ idle' in cc)) f.stored;
    turned = turned_still M k p.status vs id v w here p.status p.turns (λ u. refl)
        (λ r. ap (turned_in M k r) (idle' ∙ sym idle)) f.turned;
  }

  -- a Waiting note whose edges a step doesn't change, and which no view begins or ends to move
  pub waits_moved : (w : View J) (wt' : List ℕ) (u : ℕ) → ((e q : ℕ) → Edge k.edges e q u → at wt' e ≡ at p.watch e)
      → moves u w ≡ moves u v → ((i : ℕ) → moves_at u i w ≡ moves_at u i v)
      → Waits k p.watch vs u → Waits k wt' (set vs id w) u
  waits_moved w wt' u edges m ma h = record {
    edge = h.edge;
    before = λ e q edge l. edges e q edge ∙ h.before e q edge l;
    after = λ e q edge l z. h.after e q edge l (sym (edges e q edge) ∙ z);
    who = ⊎_elim
        (λ a. inl (a.0, a.1, edges h.edge a.0 a.1 ∙ a.2, total_keeps k vs id v w here (moves u) m ∙ a.3))
        (λ b. inr (
          (λ q edge z. b.0 q edge (sym (edges h.edge q edge) ∙ z)),
          total_keeps k vs id v w here (moves u) m ∙ b.1,
          total_keeps k vs id v w here (moves_at u h.edge) (ma h.edge) ∙ b.2,
        ))
        h.who;
    some_edge = h.some_edge;
  }

  pub one_target : (e q t r u : ℕ) → Edge k.edges e q t → Edge k.edges e r u → t ≡ u
  one_target e q t r u a b = ap (λ z. z.1) (same_Some _ _ (sym a ∙ b))

  one_source : (e q t r u : ℕ) → Edge k.edges e q t → Edge k.edges e r u → q ≡ r
  one_source e q t r u a b = ap (λ z. z.0) (same_Some _ _ (sym a ∙ b))

  pub edge_below : (e q t : ℕ) → Edge k.edges e q t → e < length p.watch
  edge_below e q t edge = omega (arith, slice_get_within k.edges e (q, t) edge, sized.watch)

  -- what is known about the note that a view moves: it waits at the view's edge
  module _ (t i : ℕ) (moving : v.moving ≡ Some (record { note = t; from = i })) where
    mine : moves t v ≡ 1
    mine = ap (spot_on t) moving ∙ on_here t i

    pub moved_waits : at p.status t ≡ 0
    moved_waits = grind (arith, common_steps, cases_eq, mine, total_le)

    pub moved_in : t < k.notes
    moved_in = ⊎_elim (λ l. l)
        (λ n. absurd (omega (arith, f.watches.moving_in t n, total_le (moves t) vs id v here, mine)))
        (cases_lt t k.notes)

    pub moved_at : (h : Waits k p.watch vs t)
        → ((q : ℕ) → Edge k.edges h.edge q t → at p.watch h.edge ≢ 1) × (total (moves t) vs ≡ 1) × (h.edge ≡ i)
    moved_at h = ⊎_elim
        (λ a. absurd (omega (arith, a.3, total_le (moves t) vs id v here, mine)))
        (λ b. let tight : moves_at t h.edge v ≡ moves t v =
        total_tight (moves_at t h.edge) (moves t) vs id v (λ x. at_less t h.edge x.moving) (b.2 ∙ sym b.1) here in
        (b.0, b.1, sym (at_from t i h.edge (sym (ap (spot_at t h.edge) moving) ∙ tight ∙ mine)))) h.who

    pub others_moves : (u j : ℕ) → u ≢ t → (moves u v ≡ 0) × (moves_at u j v ≡ 0)
    others_moves u j n = grind (arith, common_steps, at_else, on_else)

  -- edge e of the note that is being closed becomes Closed
  pub facts_shut : (e q t i : ℕ) → Edge k.edges e q t → v.plan ≡ k → v.closing ≡ Some (record { note = q; from = i })
      → v.moving ≡ None → i ≤ e → ((g u : ℕ) → Edge k.edges g q u → i ≤ g → e ≤ g) → v.spent ≡ false
      → Facts M k (record p { watch = set p.watch e 2 }) hs (set vs id (shut v e q t (at p.watch e)))
  facts_shut e q t i edge v_plan closing no_moving low first live =
      facts_aside w (set p.watch e 2) idle idle refl refl refl refl (λ x. refl) refl refl
      (gates_watch k p.status p.watch e 2 near f.gates (omega arith)
      (λ z r u edge'. ap (at p.status) (sym (one_source e q t r u edge edge')) ∙ source_done) (λ z. refl))
      (λ s. sane_live k v w live refl refl refl refl refl (inl idle) s.owes_in s)
      (watches_step k vs id v w here p.status p.status p.watch (set p.watch e 2)
      (λ r. let a : closes r v ≡ same q r = ap (spot_on r) closing in let b : closes r w ≤ same q r =
      closing_on v.plan.edges q (e + 1) r in omega arith) goes waits
      (λ u n. still u (λ z c. n (ap (at p.status) z ∙ watcher_waits c)) ∙ f.watches.calm u n)
      (λ u n. still u (λ z c. let l = (plan.forward e q t edge).1 in omega arith) ∙ f.watches.moving_in u n) f.watches)
    where
      w : View J
      w = shut v e q t (at p.watch e)

      idle : v.doing ≡ None
      idle = not_doing (record { note = q; from = i }) (inl closing)

      near : e < length p.watch
      near = edge_below e q t edge

      source_done : at p.status q ≡ 3
      source_done = ⊎_elim (λ z. z.0)
          (λ z. absurd (omega (
            arith,
            z.1,
            f.watches.closing q,
            total_le (closes q) vs id v here,
            ap (spot_on q) closing,
            on_here q i,
          )))
          (same_cases (at p.status q) 3)

      -- the watcher that is found is a Waiting note
      watcher_waits : at p.watch e ≡ 1 → at p.status t ≡ 0
      watcher_waits c = ⊎_elim (λ z. z) (λ n. absurd (omega (arith, f.gates.closed e q t edge n)))
          (cases_eq (at p.status t) 0)

      no_move : (u : ℕ) → moves u v ≡ 0
      no_move u = ap (spot_on u) no_moving

      no_move_at : (u j : ℕ) → moves_at u j v ≡ 0
      no_move_at u j = ap (spot_at u j) no_moving

      found_move : at p.watch e ≡ 1 → w.moving ≡ Some (record { note = t; from = e + 1 })
      found_move c = ap (λ b. cond b (Some (record { note = t; from = e + 1 })) None) (eq-eqb (at p.watch e) 1 c)

      lost_move : at p.watch e ≢ 1 → w.moving ≡ None
      lost_move n = ap (λ b. cond b (Some (record { note = t; from = e + 1 })) None) (ne_eqb (at p.watch e) 1 n)

      -- the same number of views move a note as before, unless it is the watcher that was found
      same_moves : (u : ℕ) → (u ≡ t → at p.watch e ≢ 1)
          → (moves u w ≡ moves u v) × ((j : ℕ) → moves_at u j w ≡ moves_at u j v)
      same_moves u n = ⊎_elim
          (λ c. let d : t ≢ u = λ z. n (sym z) c in (
            ap (spot_on u) (found_move c) ∙ on_else t u (e + 1) d ∙ sym (no_move u),
            λ j. ap (spot_at u j) (found_move c) ∙ at_else t u (e + 1) j d ∙ sym (no_move_at u j),
          ))
          (λ c. (
            ap (spot_on u) (lost_move c) ∙ sym (no_move u),
            λ j. ap (spot_at u j) (lost_move c) ∙ sym (no_move_at u j),
          ))
          (cases_eq (at p.watch e) 1)

      still : (u : ℕ) → (u ≡ t → at p.watch e ≢ 1) → total (moves u) (set vs id w) ≡ total (moves u) vs
      still u n = total_keeps k vs id v w here (moves u) (same_moves u n).0

      goes : (g r u : ℕ) → Edge k.edges g r u → at p.status r ≡ 3 → (at (set p.watch e 2) g ≡ 2)
          ⊎ ((0 < closes_by r g w) ⊎ ((at p.status r ≡ 3) × (at p.watch g ≡ 2 → at (set p.watch e 2) g ≡ 2)
          × (closes_by r g v ≤ closes_by r g w)))
      goes g r u edge' d = ⊎_elim
          (λ z. inl z.1)
          (λ z. ⊎_elim
          (λ (s : q ≡ r). ⊎_elim
          (λ (l : g < i). inr (inr (
            d,
            (λ c. z.1 ∙ c),
            omega (
              arith,
              ap (spot_by r g) closing,
              subst (λ x. spot_by x g (Some (record { note = q; from = i })) ≡ 0) s (by_later q i g l),
            ),
          )))
          (λ (l : i ≤ g). let edge_q : Edge k.edges g q u = subst (λ x. Edge k.edges g x u) (sym s) edge' in
          let n = z.0 in let l' : e ≤ g = first g u edge_q l in
          inr (inl (subst (λ x. 0 < closes_by x g w) s (omega (
            arith,
            closing_by v.plan.edges g q u (e + 1)
                (subst (λ x. Edge x g q u) (sym (ap (λ y. y.edges) v_plan)) edge_q) (omega arith),
          )))))
          (cases_lt g i))
          (λ (n : q ≢ r). inr (inr (d, (λ c. z.1 ∙ c), omega (arith, ap (spot_by r g) closing, by_else q r i g n))))
          (cases_eq q r))
          (put_cases p.watch e 2 g near)

      waits : (u : ℕ) → u < k.notes → at p.status u ≡ 0 → Waits k (set p.watch e 2) (set vs id w) u
      waits u l z = ⊎_elim
          (λ (s : u ≡ t). ⊎_elim
          (λ (c : at p.watch e ≡ 1). subst (Waits k (set p.watch e 2) (set vs id w)) (sym s)
          (found c (subst (Waits k p.watch vs) s (f.watches.waits u l z))))
          (λ (c : at p.watch e ≢ 1). closed u c (f.watches.waits u l z)) (cases_eq (at p.watch e) 1))
          (λ (n : u ≢ t). let m = same_moves u (λ s. absurd (n s)) in
          waits_moved w (set p.watch e 2) u
          (λ g r edge'. ⊎_elim (λ y. absurd (n (one_target e r u q t (subst (λ x. Edge k.edges x r u) y.0 edge') edge)))
          (λ y. y.1) (put_cases p.watch e 2 g near)) m.0 m.1 (f.watches.waits u l z)) (cases_eq u t)
        where
          closed : (u : ℕ) → at p.watch e ≢ 1 → Waits k p.watch vs u → Waits k (set p.watch e 2) (set vs id w) u
          closed u c h = let m = same_moves u (λ s. c) in record {
            edge = h.edge;
            before = λ g r edge' l. ⊎_elim (λ y. y.1) (λ y. y.1 ∙ h.before g r edge' l) (put_cases p.watch e 2 g near);
            after = λ g r edge' l. ⊎_elim (λ y x. omega (arith, y.1, x)) (λ y x. h.after g r edge' l (sym y.1 ∙ x))
                (put_cases p.watch e 2 g near);
            who = ⊎_elim
                (λ a. inl (
                  a.0,
                  a.1,
                  ⊎_elim (λ y. absurd (c (ap (at p.watch) (sym y.0) ∙ a.2))) (λ y. y.1 ∙ a.2)
                      (put_cases p.watch e 2 h.edge near),
                  total_keeps k vs id v w here (moves u) m.0 ∙ a.3,
                ))
                (λ b. inr (
                  (λ r edge'. ⊎_elim (λ y x. omega (arith, y.1, x)) (λ y x. b.0 r edge' (sym y.1 ∙ x))
                      (put_cases p.watch e 2 h.edge near)),
                  total_keeps k vs id v w here (moves u) m.0 ∙ b.1,
                  total_keeps k vs id v w here (moves_at u h.edge) (m.1 h.edge) ∙ b.2,
                ))
                h.who;
            some_edge = h.some_edge;
          }

          found : at p.watch e ≡ 1 → Waits k p.watch vs t → Waits k (set p.watch e 2) (set vs id w) t
          found c h =
              let edge_is : h.edge ≡ e = ⊎_elim
              (λ l. absurd (h.after e q edge l c))
              (λ l. ⊎_elim (λ m. absurd (omega (arith, h.before e q edge m))) (λ m. omega arith) (cases_lt e h.edge))
              (cases_lt h.edge e) in
              let none : total (moves t) vs ≡ 0 = ⊎_elim (λ a. a.3)
              (λ b. absurd (b.0 q (subst (λ x. Edge k.edges x q t) (sym edge_is) edge)
              (ap (at p.watch) edge_is ∙ c))) h.who in
              record {
                edge = e + 1;
                before = λ g r edge' l. ⊎_elim (λ y. y.1)
                    (λ y. let n = y.0 in y.1
                    ∙ h.before g r edge' (omega (arith, edge_is))) (put_cases p.watch e 2 g near);
                after = λ g r edge' l x. ⊎_elim (λ y. omega (arith, y.0))
                    (λ y. h.after g r edge' (omega (arith, edge_is)) (sym y.1 ∙ x)) (put_cases p.watch e 2 g near);
                who = inr (
                  (λ r edge' x. ⊎_elim (λ y. omega (arith, y.0))
                      (λ y. h.after (e + 1) r edge' (omega (arith, edge_is)) (sym y.1 ∙ x))
                      (put_cases p.watch e 2 (e + 1) near)),
                  omega (
                    arith,
                    total-set (moves t) vs id v w here,
                    none,
                    no_move t,
                    ap (spot_on t) (found_move c),
                    on_here t (e + 1),
                  ),
                  omega (
                    arith,
                    total-set (moves_at t (e + 1)) vs id v w here,
                    total_more (moves_at t (e + 1)) (moves t) vs
                        (λ x. at_less t (e + 1) x.moving),
                    none,
                    no_move_at t (e + 1),
                    ap (spot_at t (e + 1)) (found_move c),
                    at_here t (e + 1),
                  ),
                );
                some_edge = h.some_edge;
              }
