-- The slots: a note's job is in its slot, or out with the seat that runs it.
use Rattle.std.proofs.Common.{arith, ◌≡◌, ◌≢◌, ℕ, ◌<◌, ⊎_elim, List, length, set, true, false, Some, None, refl, sym}
use Rattle.std.proofs.Common.{ap, ◌∙◌, ◌==◌, nat_le, slice_get}
use Rattle.std.proofs.lemmas.{Grind.common_steps, Option.same_Some}
use mathlib.Core.Option.{some, none}
use lib.ListN.{get_elem?}
use Rattle.cs_cells.specs.Meaning.{Meaning}
use Rattle.cs_board.specs.Facts.{Slots, job_if, Doers}
use Rattle.cs_board.specs.{Words.at, declared.view.Berth.Berth, declared.view.Berth.TheVariants.Full}
use Rattle.cs_board.specs.{declared.view.Doing.Doing, declared.view.Plan.Plan, declared.view.View.View}
use Rattle.cs_board.proofs.{Lists.put_cases, Lists.at_set, Lists.set_here, Lists.set_else, Does.busy, Does.apart}
use mathlib.Core.Option as maybe

module _ {J : Type 0} (M : Meaning J) (k : Plan J) (vs : List (View J)) (id : ℕ) (v w : View J)
    (here : get_elem? vs id ≡ some v) where
  abbrev Homes : Type 0
  Homes = List (maybe.Option (Berth J))

  pub slots_step : (st st' : List ℕ) (hs hs' : Homes) → ((t : ℕ) (j : J) → slice_get k.jobs t ≡ Some j → at st' t ≢ 2
      → get_elem? hs' t ≡ some (some (Full (job_if M k (at st' t == 3) t j))))
      → ((d : Doing) (j : J) → w.doing ≡ Some d → d.held ≡ false → slice_get k.jobs d.note ≡ Some j
      → get_elem? hs' d.note ≡ some (some (Full (job_if M k (nat_le 1 d.phase) d.note j))))
      → ((d : Doing) → w.doing ≡ Some d → d.held ≡ true → get_elem? hs' d.note ≡ some none)
      → ((i : ℕ) (x : View J) (d : Doing) → i ≢ id → get_elem? vs i ≡ some x → x.doing ≡ Some d
      → get_elem? hs' d.note ≡ get_elem? hs d.note) → Slots M k st hs vs → Slots M k st' hs' (set vs id w)
  slots_step st st' hs hs' home mine out others s = record {
    home = home;
    resting = λ i x d j e is free at_. ⊎_elim
        (λ z. mine d j (ap (λ y. y.doing) z.1 ∙ is) free at_)
        (λ z. others i x d z.0 z.1 is ∙ s.resting i x d j z.1 is free at_) (at_set vs id i w x e);
    away = λ i x d e is held. ⊎_elim
        (λ z. out d (ap (λ y. y.doing) z.1 ∙ is) held)
        (λ z. others i x d z.0 z.1 is ∙ s.away i x d z.1 is held) (at_set vs id i w x e);
  }

  -- a status changes among Waiting, Available and InProgress, and no job moves
  pub slots_status : (st : List ℕ) (hs : Homes) (t x a : ℕ) → t < length st → at st t ≡ a → a ≢ 2 → (x == 3) ≡ (a == 3)
      → ((d : Doing) (j : J) → w.doing ≡ Some d → d.held ≡ false → slice_get k.jobs d.note ≡ Some j
      → get_elem? hs d.note ≡ some (some (Full (job_if M k (nat_le 1 d.phase) d.note j))))
      → ((d : Doing) → w.doing ≡ Some d → d.held ≡ true → get_elem? hs d.note ≡ some none)
      → Slots M k st hs vs → Slots M k (set st t x) hs (set vs id w)
  slots_status st hs t x a low is two side mine out s = grind (arith, common_steps, put_cases, slots_step, some)

  -- a note becomes Done while its job is in its slot
  pub slots_done : (st : List ℕ) (hs : Homes) (d : Doing) → d.note < length st → at st d.note ≡ 2 → v.doing ≡ Some d
      → d.held ≡ false → nat_le 1 d.phase ≡ true → w.doing ≡ None
      → Slots M k st hs vs → Slots M k (set st d.note 3) hs (set vs id w)
  slots_done st hs d low is doing free ran over s = slots_step st (set st d.note 3) hs hs
      (λ u j at_ n. ⊎_elim
      (λ h. let at_d : slice_get k.jobs d.note ≡ Some j = ap (slice_get k.jobs) (sym h.0) ∙ at_ in
      ap (λ t. get_elem? hs t) h.0 ∙ s.resting id v d j here doing free at_d
      ∙ ap (λ b. some (some (Full (job_if M k b d.note j)))) (ran ∙ ap (λ z. z == 3) (sym h.1))
      ∙ ap (λ t. some (some (Full (job_if M k (at (set st d.note 3) u == 3) t j)))) (sym h.0))
      (λ h. s.home u j at_ (λ z. n (h.1 ∙ z)) ∙ ap (λ z. some (some (Full (job_if M k (z == 3) u j)))) (sym h.1))
      (put_cases st d.note 3 u low))
      (λ e j is_. absurd (let z : Some e ≡ None = sym is_ ∙ over in cc))
      (λ e is_. absurd (let z : Some e ≡ None = sym is_ ∙ over in cc))
      (λ i y e n at_ is_. refl) s

  -- no slot changes, and the view still has the job of its note
  pub slots_still : (st : List ℕ) (hs : Homes) (d d' : Doing) → v.doing ≡ Some d → d.held ≡ true → w.doing ≡ Some d'
      → d'.held ≡ true → d'.note ≡ d.note → Slots M k st hs vs → Slots M k st hs (set vs id w)
  slots_still st hs d d' was held is held' same_ s = slots_step st st hs hs s.home
      (λ e j is_ free. absurd (let z : true ≡ false =
      sym held' ∙ ap (λ y. y.held) (same_Some _ _ (sym is ∙ is_)) ∙ free in cc))
      (λ e is_ out. ap (get_elem? hs) (ap (λ y. y.note) (same_Some _ _ (sym is_ ∙ is)) ∙ same_)
      ∙ s.away id v d here was held)
      (λ i y e n at_ is_. refl) s

  -- the job of the note that the view does goes out, or back
  pub slots_moved : (st : List ℕ) (hs : Homes) (d d' : Doing) (h : maybe.Option (Berth J)) → Doers k st vs
      → v.doing ≡ Some d → w.doing ≡ Some d' → d'.note ≡ d.note → d.note < length hs
      → ((j : J) → d'.held ≡ false → slice_get k.jobs d.note ≡ Some j
      → h ≡ some (Full (job_if M k (nat_le 1 d'.phase) d.note j))) → (d'.held ≡ true → h ≡ none)
      → Slots M k st hs vs → Slots M k st (set hs d.note h) (set vs id w)
  slots_moved st hs d d' h D doing doing' same_ low mine out s = slots_step st st hs (set hs d.note h)
      (λ u j at_ n. set_else hs d.note u h (λ z. n (ap (at st) z ∙ busy k st vs D id v d here doing))
      ∙ s.home u j at_ n)
      (λ e j is_ free at_.
      let same_e : d' ≡ e = same_Some _ _ (sym doing' ∙ is_) in
      let note_e : e.note ≡ d.note = ap (λ z. z.note) (sym same_e) ∙ same_ in
      ap (get_elem? (set hs d.note h)) note_e ∙ set_here hs d.note h low
      ∙ ap some (mine j (ap (λ z. z.held) same_e ∙ free) (ap (slice_get k.jobs) (sym note_e) ∙ at_))
      ∙ ap (λ z. some (some (Full (job_if M k (nat_le 1 z.phase) d.note j)))) same_e
      ∙ ap (λ t. some (some (Full (job_if M k (nat_le 1 e.phase) t j)))) (sym note_e))
      (λ e is_ held.
      let same_e : d' ≡ e = same_Some _ _ (sym doing' ∙ is_) in
      ap (get_elem? (set hs d.note h)) (ap (λ z. z.note) (sym same_e) ∙ same_) ∙ set_here hs d.note h low
      ∙ ap some (out (ap (λ z. z.held) same_e ∙ held)))
      (λ i x e n at_ is_. set_else hs d.note e.note h (apart k st vs D i id x v e d n at_ here is_ doing)) s
