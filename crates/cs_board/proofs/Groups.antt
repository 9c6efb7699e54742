-- What each group of facts requires of a step that changes one view, or a status, or a watch word.
use Rattle.std.proofs.lemmas.Grind.{common_steps}
use Rattle.std.proofs.Common.{◌≡◌, ◌≢◌, ℕ, ◌+◌, ◌<◌, ◌≤◌, ◌⊎◌, inl, inr, ⊎_elim, List, length, set, false, None, sym}
use Rattle.std.proofs.Common.{ap, ◌∙◌, subst, arith}
use mathlib.Core.Option.{some}
use lib.ListN.{get_elem?}
use Rattle.cs_graph.specs.Graph.{Edge}
use Rattle.cs_board.specs.Counts.{same, total}
use Rattle.cs_board.specs.Facts.{spot_on, spot_by, does_note, ran_note, closes, closes_by, moves, owed, has_done}
use Rattle.cs_board.specs.Facts.{is_first, numbered, Found, Gates, IsSane, Doers, Waits, Watches, Tallied, Seats, Owned}
use Rattle.cs_board.specs.{Plans.IsRoot, Words.at, declared.view.Plan.Plan, declared.view.View.View}
use Rattle.cs_board.proofs.Lists.{put_cases, at_set, total-set, total_le}

module _ {J : Type 0} (k : Plan J) where
  pub gates_status : (st wt : List ℕ) (t x : ℕ) → t < length st → Gates k st wt → x ≤ 3
      → (x ≢ 0 → (e p : ℕ) → Edge k.edges e p t → at wt e ≡ 2) → (at st t ≡ 3 → x ≡ 3) → Gates k (set st t x) wt
  gates_status st wt t x low g small shut stays = grind (arith, common_steps, put_cases)

  pub gates_watch : (st wt : List ℕ) (e x : ℕ) → e < length wt → Gates k st wt → x ≤ 2
      → (x ≡ 2 → (p t : ℕ) → Edge k.edges e p t → at st p ≡ 3) → (at wt e ≡ 2 → x ≡ 2) → Gates k st (set wt e x)
  gates_watch st wt e x low g small done stays = record {
    statuses = g.statuses;
    watches = λ f. ⊎_elim (λ h. omega (arith, h.1)) (λ h. omega (arith, h.1, g.watches f)) (put_cases wt e x f low);
    closed = λ f p u edge n. let c = g.closed f p u edge n in ⊎_elim
        (λ h. h.1 ∙ stays (ap (at wt) (sym h.0) ∙ c))
        (λ h. h.1 ∙ c) (put_cases wt e x f low);
    done = λ f p u edge c. ⊎_elim
        (λ h. done (sym h.1 ∙ c) p u (subst (λ y. Edge k.edges y p u) h.0 edge))
        (λ h. g.done f p u edge (sym h.1 ∙ c)) (put_cases wt e x f low);
  }

-- a view that takes part stays sane if what it does and what it owes are valid
pub sane_live : {J : Type 0} (k : Plan J) (v w : View J) → v.spent ≡ false → w.spent ≡ v.spent → w.plan ≡ v.plan
    → w.first ≡ v.first → w.out ≡ v.out → w.rest ≡ v.rest
    → (w.doing ≡ None) ⊎ ((w.closing ≡ None) × (w.moving ≡ None)) → ((t : ℕ) → 0 < owed t w → t < k.notes) → IsSane k v
    → IsSane k w
sane_live k v w live spent plan first out rest duty owes s = grind (arith, common_steps)

module _ {J : Type 0} (k : Plan J) (vs : List (View J)) (id : ℕ) (v w : View J) (here : get_elem? vs id ≡ some v) where
  pub total_keeps : (g : View J → ℕ) → g w ≡ g v → total g (set vs id w) ≡ total g vs
  total_keeps g e = omega (arith, total-set g vs id v w here)

  pub sane_step : (IsSane k v → IsSane k w) → ((i : ℕ) (x : View J) → get_elem? vs i ≡ some x → IsSane k x)
      → (i : ℕ) (x : View J) → get_elem? (set vs id w) i ≡ some x → IsSane k x
  sane_step f all i x e = ⊎_elim (λ h. subst (IsSane k) h.1 (f (all id v here))) (λ h. all i x h.1)
      (at_set vs id i w x e)

  pub doers_step : (st st' : List ℕ) → ((u : ℕ) → does_note u w + same (at st u) 2 ≡ does_note u v + same (at st' u) 2)
      → Doers k st vs → Doers k st' (set vs id w)
  doers_step st st' h d u = omega (arith, h u, d u, total-set (does_note u) vs id v w here)

  pub waits_still : (wt : List ℕ) (t : ℕ) → w.moving ≡ v.moving → Waits k wt vs t → Waits k wt (set vs id w) t
  waits_still wt t m h = grind (arith, common_steps, total_keeps)

  abbrev pub Goes : List ℕ → List ℕ → List ℕ → List ℕ → ℕ → ℕ → Type 0
  Goes st st' wt wt' e p =
      (at wt' e ≡ 2) ⊎ ((0 < closes_by p e w)
      ⊎ ((at st p ≡ 3) × (at wt e ≡ 2 → at wt' e ≡ 2) × (closes_by p e v ≤ closes_by p e w)))

  pub watches_step : (st st' wt wt' : List ℕ)
      → ((p : ℕ) → closes p w + same (at st p) 3 ≤ closes p v + same (at st' p) 3)
      → ((e p t : ℕ) → Edge k.edges e p t → at st' p ≡ 3 → Goes st st' wt wt' e p)
      → ((t : ℕ) → t < k.notes → at st' t ≡ 0 → Waits k wt' (set vs id w) t)
      → ((t : ℕ) → at st' t ≢ 0 → total (moves t) (set vs id w) ≡ 0)
      → ((t : ℕ) → k.notes ≤ t → total (moves t) (set vs id w) ≡ 0)
      → Watches k st wt vs → Watches k st' wt' (set vs id w)
  watches_step st st' wt wt' one_each goes waits calm moving h = record {
    closing = λ p. omega (
      arith,
      one_each p,
      h.closing p,
      total-set (closes p) vs id v w here,
      total_le (closes p) vs id v here,
    );
    left = λ e p t edge d. ⊎_elim
        (λ c. inl c)
        (λ r. ⊎_elim
        (λ (a : 0 < closes_by p e w). inr
        (omega (arith, total-set (closes_by p e) vs id v w here, total_le (closes_by p e) vs id v here)))
        (λ b. ⊎_elim
        (λ c. inl (b.1 c))
        (λ (c : 0 < total (closes_by p e) vs). inr (omega (arith, b.2, total-set (closes_by p e) vs id v w here)))
        (h.left e p t edge b.0)) r) (goes e p t edge d);
    waits = waits;
    calm = calm;
    moving_in = moving;
  }

  -- a step that moves and closes nothing, and after which the same notes are Waiting and the same are Done
  pub watches_still : (st st' wt : List ℕ) → w.closing ≡ v.closing → w.moving ≡ v.moving
      → ((u : ℕ) → same (at st u) 3 ≡ same (at st' u) 3) → ((u : ℕ) → at st' u ≡ 3 → at st u ≡ 3)
      → ((u : ℕ) → at st' u ≡ 0 → at st u ≡ 0) → ((u : ℕ) → at st' u ≢ 0 → at st u ≢ 0)
      → Watches k st wt vs → Watches k st' wt (set vs id w)
  watches_still st st' wt c m alike done none some_ h = watches_step st st' wt wt
      (λ p. omega (arith, alike p, ap (spot_on p) c))
      (λ e p t edge d. inr (inr (done p d, λ z. z, omega (arith, ap (spot_by p e) c))))
      (λ t low z. waits_still wt t m (h.waits t low (none t z)))
      (λ t n. total_keeps (moves t) (ap (spot_on t) m) ∙ h.calm t (some_ t n))
      (λ t n. total_keeps (moves t) (ap (spot_on t) m) ∙ h.moving_in t n) h

  pub tallied_step : (st st' : List ℕ)
      → ((t : ℕ) → at st' t ≡ 1 → (0 < owed t w) ⊎ ((at st t ≡ 1) × (owed t v ≤ owed t w)))
      → ((t : ℕ) → Found w t → t < k.notes → IsRoot k t → Found v t ⊎ (2 ≤ at st' t))
      → ((t : ℕ) → 2 ≤ at st t → 2 ≤ at st' t)
      → ((t : ℕ) → has_done t w + same (at st t) 3 ≡ has_done t v + same (at st' t) 3)
      → Tallied k st vs → Tallied k st' (set vs id w)
  tallied_step st st' owing found rises having h = record {
    owing = λ t e. ⊎_elim
        (λ (a : 0 < owed t w). omega (arith, total-set (owed t) vs id v w here, total_le (owed t) vs id v here))
        (λ b. omega (arith, b.1, h.owing t b.0, total-set (owed t) vs id v w here)) (owing t e);
    finding = λ i x t e f low root. ⊎_elim
        (λ z. ⊎_elim (λ old. rises t (h.finding id v t here old low root)) (λ new. new)
        (found t (subst (λ y. Found y t) (sym z.1) f) low root))
        (λ z. rises t (h.finding i x t z.1 f low root)) (at_set vs id i w x e);
    having = λ t. omega (arith, having t, h.having t, total-set (has_done t) vs id v w here);
  }

  pub seats_step : is_first w ≡ is_first v → ((x : ℕ) → numbered x w ≡ numbered x v) → w.out ≡ v.out → w.made ≡ v.made
      → Seats vs → Seats (set vs id w)
  seats_step l n o m h = grind (arith, common_steps, at_set, total_keeps)

  pub owned_step : (st st' ow ow' : List ℕ)
      → ((u : ℕ) → at ow' u + same (at st u) 3 + ran_note u v ≡ at ow u + same (at st' u) 3 + ran_note u w)
      → Owned st ow vs → Owned st' ow' (set vs id w)
  owned_step st st' ow ow' h o u = omega (arith, h u, o u, total-set (ran_note u) vs id v w here)
