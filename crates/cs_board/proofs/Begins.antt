-- A note is claimed, or a try misses it; and the steps of a note that is being done: they preserve the facts.
use Rattle.std.proofs.Common.{◌≡◌, ◌≢◌, ℕ, ◌+◌, ◌<◌, ◌≤◌, inl, inr, ⊎_elim, List, length, set, false, true, false, Some}
use Rattle.std.proofs.Common.{None, refl, sym, ap, ◌∙◌, subst, arith, ◌==◌, nat_le, slice_get}
use Rattle.std.proofs.lemmas.{Option.same_Some, Bool.and_right, Bool.cases_eq}
use mathlib.Core.Option.{some}
use lib.ListN.{get_elem?}
use Rattle.cs_cells.specs.Meaning.{Meaning, Frames}
use Rattle.cs_cells.proofs.Laid.{at_push}
use Rattle.cs_board.specs.{Counts.one, Counts.same, Facts.Slots, Facts.Stored, Facts.Turned, Facts.job_if, Plans.IsPlan}
use Rattle.cs_board.specs.{Plans.IsRoot, Rule.Facts, Views.began, Views.missed, Views.does, Views.fresh, Words.Words}
use Rattle.cs_board.specs.{Words.at, Words.IsSized, declared.view.Berth.Berth, declared.view.Berth.TheVariants.Full}
use Rattle.cs_board.specs.{declared.view.Doing.Doing, declared.view.Plan.Plan, declared.view.View.View}
use Rattle.cs_board.specs.Facts.{doing_on, ran_on, turned_in, ran_note, Gates, Doers, Watches, Tallied, Pictured, Owned}
use Rattle.cs_board.proofs.{Does.alike, Groups.seats_step, Groups.owned_step, Slots.slots_step, Slots.slots_status}
use Rattle.cs_board.proofs.{Stores.stored_step, Stores.pictured_fresh, Turns.turned_still}
use Rattle.cs_board.proofs.Groups.{gates_status, sane_live, sane_step, doers_step, watches_still, tallied_step}
use Rattle.cs_board.proofs.Lists.{put_cases, put_counts, times-without, times-without_le}
use mathlib.Core.Option as maybe

-- a status other than Done that is set to another one isn't Done either
pub three_still : (st : List ℕ) (t x a : ℕ) → t < length st → at st t ≡ a → (x == 3) ≡ (a == 3) → (u : ℕ)
    → same (at st u) 3 ≡ same (at (set st t x) u) 3
three_still st t x a low is side u = ap one (sym (alike st t x a low is side u))

module _ {J : Type 0} (M : Meaning J) (F : Frames M) (k : Plan J) (plan : IsPlan M k) (p : Words) (sized : IsSized k p)
    (hs : List (maybe.Option (Berth J))) (vs : List (View J)) (id : ℕ) (v : View J) (here : get_elem? vs id ≡ some v)
    (f : Facts M k p hs vs) where
  abbrev st : List ℕ
  st = p.status

  -- note t was Available and now belongs to this seat
  pub facts_began : (t : ℕ) → t < k.notes → at p.status t ≡ 1 → v.plan ≡ k → v.doing ≡ None → v.closing ≡ None
      → v.moving ≡ None → v.spent ≡ false
      → Facts M k (record p { status = set p.status t 2 }) hs (set vs id (began M v t))
  facts_began t low is v_plan idle no_closing no_moving live =
      let w : View J = began M v t in
      let st' : List ℕ = set p.status t 2 in
      let near : t < length p.status = omega (arith, sized.status) in
      record {
        gates = gates_status k st p.watch t 2 near f.gates (omega arith)
            (λ n e q edge. f.gates.closed e q t edge (λ z. omega arith)) (λ z. absurd (omega arith));
        sane = sane_step k vs id v w here
            (λ s. sane_live k v w live refl refl refl refl refl (inr (no_closing, no_moving))
            (λ u some_. s.owes_in u (omega (arith, some_, times-without_le u t v.owes))) s) f.sane;
        doers = doers_step k vs id v w here st st' (λ u. omega (
          arith,
          put_counts st t 2 1 2 u near is,
          ap (doing_on u) idle,
        )) f.doers;
        watches = watches_still k vs id v w here st st' p.watch refl refl (three_still st t 2 1 near is refl)
            (λ u z. ⊎_elim (λ h. omega (arith, h.1)) (λ h. sym h.1 ∙ z) (put_cases st t 2 u near))
            (λ u z. ⊎_elim (λ h. omega (arith, h.1)) (λ h. sym h.1 ∙ z) (put_cases st t 2 u near))
            (λ u z y. ⊎_elim (λ h. let e : at st u ≡ 1 = ap (at st) h.0 ∙ is in omega arith) (λ h. z (h.1 ∙ y))
            (put_cases st t 2 u near)) f.watches;
        tallied = tallied_step k vs id v w here st st'
            (λ u z. ⊎_elim (λ h. absurd (omega (arith, h.1, z)))
            (λ h. inr (sym h.1 ∙ z, omega (arith, times-without u t v.owes h.0))) (put_cases st t 2 u near))
            (λ u q l root. inl q)
            (λ u z. ⊎_elim (λ h. omega (arith, h.1)) (λ h. omega (arith, h.1)) (put_cases st t 2 u near))
            (λ u. omega (arith, three_still st t 2 1 near is refl u)) f.tallied;
        seats = seats_step k vs id v w here refl (λ x. refl) refl refl f.seats;
        owned = owned_step k vs id v w here st st' p.own p.own (λ u.
            let a : ran_note u v ≡ 0 = ap (ran_on u) idle in
            let b : ran_note u w ≡ 0 = ap one (and_right (t == u) false refl) in
            omega (arith, three_still st t 2 1 near is refl u)) f.owned;
        slots = slots_status M k vs id v w here st hs t 2 1 near is (λ z. omega arith) refl (λ d j e free at_.
            let same_d : fresh M v.plan t ≡ d = same_Some _ _ e in
            let note : t ≡ d.note = ap (λ x. x.note) same_d in
            let phase : 0 ≡ d.phase = ap (λ x. x.phase) same_d in
            let at_t : slice_get k.jobs t ≡ Some j = ap (slice_get k.jobs) note ∙ at_ in
            let home : get_elem? hs t ≡ some (some (Full (job_if M k (at st t == 3) t j))) =
            f.slots.home t j at_t (λ z. omega arith) in
            ap (get_elem? hs) (sym note) ∙ home ∙ ap (λ n. some (some (Full (job_if M k (n == 3) t j)))) is
            ∙ ap (λ n. some (some (Full (job_if M k (nat_le 1 n) t j)))) phase
            ∙ ap (λ n. some (some (Full (job_if M k (nat_le 1 d.phase) n j)))) note)
            (λ d e held. absurd (let z : true ≡ false =
            sym held ∙ ap (λ y. y.held) (sym (same_Some _ _ e)) in cc)) f.slots;
        stored = stored_step M F k plan st p.watch p.cells vs id v w here f.gates st' (alike st t 2 1 near is refl)
            (λ u z. ⊎_elim (λ h. h.1) (λ h. h.1 ∙ z) (put_cases st t 2 u near))
            (λ d e. subst (Pictured M k p.cells) (ap (λ z. fresh M z t) (sym v_plan) ∙ same_Some _ _ e)
            (pictured_fresh M F k plan st p.watch p.cells vs id v w here f.gates t low is f.stored)) f.stored;
        turned = turned_still M k st vs id v w here st' p.turns (alike st t 2 1 near is refl)
            (λ r. sym (ap (turned_in M k r) idle)) f.turned;
      }

  -- note t was found other than Available
  pub facts_missed : (t : ℕ) → at p.status t ≢ 1 → v.spent ≡ false → Facts M k p hs (set vs id (missed v t))
  facts_missed t is live =
      let w : View J = missed v t in
      let begun : (u : ℕ) → u < k.notes → IsRoot k u → at p.status u ≢ 1 → 2 ≤ at p.status u = λ u low root n. ⊎_elim
      (λ (z : at p.status u ≡ 0). let h =
      f.watches.waits u low z in absurd (root h.some_edge.0 h.some_edge.1 h.some_edge.2))
      (λ (y : at p.status u ≢ 0). omega arith) (cases_eq (at p.status u) 0) in
      record {
        gates = f.gates;
        sane = sane_step k vs id v w here
            (λ s. sane_live k v w live refl refl refl refl refl s.one_duty
            (λ u some_. s.owes_in u (omega (arith, some_, times-without_le u t v.owes))) s) f.sane;
        doers = doers_step k vs id v w here st st (λ u. refl) f.doers;
        watches = watches_still k vs id v w here st st p.watch refl refl (λ u. refl) (λ u z. z) (λ u z. z) (λ u z. z)
            f.watches;
        tallied = tallied_step k vs id v w here st st
            (λ u z. ⊎_elim
            (λ (e : u ≡ t). absurd (is (ap (at st) (sym e) ∙ z)))
            (λ (n : u ≢ t). inr (z, omega (arith, times-without u t v.owes n))) (cases_eq u t))
            (λ u q low root. ⊎_elim
            (λ old. inl (q.0, q.1, old.0))
            (λ new. let e : t ≡ u = ap (λ x. x.0) (sym new.1) in
            inr (begun u low root (λ z. is (ap (at st) e ∙ z)))) (at_push v.found (t, v.tries + 1) q.0 (u, q.1) q.2))
            (λ u z. z)
            (λ u. refl) f.tallied;
        seats = seats_step k vs id v w here refl (λ x. refl) refl refl f.seats;
        owned = owned_step k vs id v w here st st p.own p.own (λ u. refl) f.owned;
        slots = slots_step M k vs id v w here st st hs hs f.slots.home
            (λ d j e free at_. f.slots.resting id v d j here e free at_) (λ d e held. f.slots.away id v d here e held)
            (λ i y d n e z. refl) f.slots;
        stored = stored_step M F k plan st p.watch p.cells vs id v w here f.gates st (λ u. refl) (λ u z. z)
            (λ d e. f.stored.images id v d here e) f.stored;
        turned = turned_still M k st vs id v w here st p.turns (λ u. refl) (λ r. refl) f.turned;
      }

  -- a step of the note that the view is doing
  pub facts_does : (p' : Words) (hs' : List (maybe.Option (Berth J))) (d d' : Doing) → p'.status ≡ p.status
      → p'.watch ≡ p.watch → v.doing ≡ Some d → d'.note ≡ d.note → v.spent ≡ false
      → Owned p.status p'.own (set vs id (does v d')) → Slots M k p.status hs' (set vs id (does v d'))
      → Stored M k p.status p'.cells (set vs id (does v d'))
      → Turned M k p.status p'.turns (set vs id (does v d')) → Facts M k p' hs' (set vs id (does v d'))
  facts_does p' hs' d d' same_status same_watch doing note live owned slots stored turned =
      let w : View J = does v d' in
      record {
        gates = subst (λ x. Gates k x p'.watch) (sym same_status) (subst (Gates k p.status) (sym same_watch) f.gates);
        sane = sane_step k vs id v w here
            (λ s. sane_live k v w live refl refl refl refl refl
            (⊎_elim (λ none. absurd (let e : Some d ≡ None = sym doing ∙ none in cc)) (λ both. inr both) s.one_duty)
            s.owes_in s) f.sane;
        doers = subst (λ x. Doers k x (set vs id w)) (sym same_status) (doers_step k vs id v w here st st
            (λ u. ap (λ n. n + same (at p.status u) 2) (ap (λ n. same n u) note
            ∙ sym (ap (doing_on u) doing))) f.doers);
        watches = subst (λ x. Watches k x p'.watch (set vs id w)) (sym same_status)
            (subst (λ x. Watches k p.status x (set vs id w)) (sym same_watch)
            (watches_still k vs id v w here st st p.watch refl refl (λ u. refl) (λ u z. z) (λ u z. z) (λ u z. z)
            f.watches));
        tallied = subst (λ x. Tallied k x (set vs id w)) (sym same_status)
            (tallied_step k vs id v w here st st (λ u z. inr (z, omega arith)) (λ u q l root. inl q) (λ u z. z)
            (λ u. refl) f.tallied);
        seats = seats_step k vs id v w here refl (λ x. refl) refl refl f.seats;
        owned = subst (λ x. Owned x p'.own (set vs id w)) (sym same_status) owned;
        slots = subst (λ x. Slots M k x hs' (set vs id w)) (sym same_status) slots;
        stored = subst (λ x. Stored M k x p'.cells (set vs id w)) (sym same_status) stored;
        turned = subst (λ x. Turned M k x p'.turns (set vs id w)) (sym same_status) turned;
      }
