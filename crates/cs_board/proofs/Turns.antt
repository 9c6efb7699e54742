-- The turn words: the number of notes that write a resource and have run.
use Rattle.std.proofs.lemmas.{Grind.common_steps, List.take_all}
use Rattle.std.proofs.Common.{◌≡◌, ◌≢◌, ℕ, zero, suc, ◌+◌, ◌-◌, ◌<◌, ◌≤◌, ⊎_elim, List, [], ◌∷◌, length, set, take}
use Rattle.std.proofs.Common.{Bool, true, false, Option, Some, None, refl, sym, ap, ◌∙◌, arith, ◌==◌, ◌&&◌, ◌||◌}
use Rattle.std.proofs.Common.{eq-eqb, eqb-true}
use Rattle.std.proofs.lemmas.Bool.{and_parts, and_right, cases_Bool, cases_eq}
use Rattle.std.specs.{List.Contains, List.Sorted.IsStrictlyIncreasing}
use mathlib.Core.Option.{some}
use lib.ListN.{get_elem?}
use Rattle.cs_cells.specs.Meaning.{Meaning}
use Rattle.cs_board.specs.{Counts.one, Counts.listed, Views.next_phase, Words.at, declared.view.Doing.Doing}
use Rattle.cs_board.specs.{declared.view.Plan.Plan, declared.view.View.View}
use Rattle.cs_board.specs.Facts.{Gates, Doers, turned_in, turned_on, done_writers, Turned}
use Rattle.cs_board.specs.Plans.{IsPlan, places_used, places_written, writers_before, area_count}
use Rattle.cs_board.proofs.Conflicts.{listed_contains, writer_user, user_writer, past, alone_on}
use Rattle.cs_board.proofs.Counting.{count_same, count_more, count_cut, listed_more, listed_here, listed_fresh}
use Rattle.cs_board.proofs.{Does.busy, Does.apart, Lists.put_cases, Lists.total-set, Lists.total_only}

module _ {J : Type 0} (M : Meaning J) (k : Plan J) where
  done_same : (st st' : List ℕ) (r : ℕ) → ((u : ℕ) → (at st' u == 3) ≡ (at st u == 3))
      → done_writers M k st' r ≡ done_writers M k st r
  done_same st st' r alike = grind (arith, common_steps, count_same)

  module _ (st : List ℕ) (vs : List (View J)) (id : ℕ) (v w : View J) (here : get_elem? vs id ≡ some v) where
    -- the same notes are Done, and the view has made the same turns
    pub turned_still : (st' tw : List ℕ) → ((u : ℕ) → (at st' u == 3) ≡ (at st u == 3))
        → ((r : ℕ) → turned_on M k r w ≡ turned_on M k r v) → Turned M k st tw vs → Turned M k st' tw (set vs id w)
    turned_still st' tw alike same_ h r l =
        omega (arith, h r l, same_ r, done_same st st' r alike, total-set (turned_on M k r) vs id v w here)

    -- a note makes its turn on a resource that it writes, in the order of its footprint
    pub turned_more : (tw : List ℕ) (d : Doing) (i r0 x : ℕ) → v.doing ≡ Some d → w.doing ≡ Some (next_phase d)
        → d.phase ≡ i + 1 → IsStrictlyIncreasing (places_written M k d.note)
        → i < length (places_written M k d.note) → at (places_written M k d.note) i ≡ r0 → r0 < length tw
        → x ≡ at tw r0 + 1 → Turned M k st tw vs → Turned M k st (set tw r0 x) (set vs id w)
    turned_more tw d i r0 x doing doing' phase up low is within new h r l =
        let less : d.phase - 1 ≡ i = omega arith in
        let more : d.phase + 1 - 1 ≡ i + 1 = omega arith in
        let W : List ℕ = places_written M k d.note in
        let before_ : turned_on M k r v ≡ one (listed (take i W) r) =
        ap (turned_in M k r) doing ∙ ap (λ n. one (listed (take n W) r)) less in
        let after_ : turned_on M k r w ≡ one (listed (take (i + 1) W) r) =
        ap (turned_in M k r) doing' ∙ ap (λ n. one (listed (take n W) r)) more in
        let sum = total-set (turned_on M k r) vs id v w here in
        ⊎_elim
        (λ z. let e : at W i ≡ r = is ∙ sym z.0 in
        let old : one (listed (take i W) r) ≡ 0 = ap one (ap (listed (take i W)) (sym e) ∙ listed_fresh W up i low) in
        let now : one (listed (take (i + 1) W) r) ≡ 1 =
        ap one (ap (listed (take (i + 1) W)) (sym e) ∙ listed_here W i low) in
        let word : at tw r ≡ at tw r0 = ap (at tw) z.0 in
        omega (arith, z.1, h r l, sum))
        (λ z. let same_ : one (listed (take (i + 1) W) r) ≡ one (listed (take i W) r) =
        ap one (listed_more W i r low (λ e. z.0 (sym e ∙ is))) in
        omega (arith, z.1, h r l, sum)) (put_cases tw r0 x r within)

    -- a note that has made all its turns becomes Done
    pub turned_done : (tw : List ℕ) (d : Doing) → v.doing ≡ Some d → w.doing ≡ None → at st d.note ≡ 2
        → d.note < length st → d.note < k.notes → d.phase ≡ 1 + length (places_written M k d.note)
        → Turned M k st tw vs → Turned M k (set st d.note 3) tw (set vs id w)
    turned_done tw d doing over is low within phase h r l =
        let less : d.phase - 1 ≡ length (places_written M k d.note) = omega arith in
        let here_ : at (set st d.note 3) d.note ≡ 3 =
        ⊎_elim (λ z. z.1) (λ z. absurd (z.0 refl)) (put_cases st d.note 3 d.note low) in
        let W : List ℕ = places_written M k d.note in
        let before_ : turned_on M k r v ≡ one (listed W r) =
        ap (turned_in M k r) doing ∙ ap (λ n. one (listed (take n W) r)) less
        ∙ ap (λ z. one (listed z r)) (take_all (length W) W (omega arith)) in
        let after_ : turned_on M k r w ≡ 0 = ap (turned_in M k r) over in
        let more : done_writers M k (set st d.note 3) r ≡ done_writers M k st r + one
        (at (set st d.note 3) d.note == 3 && listed W r) =
        count_more (λ u. at st u == 3 && listed (places_written M k u) r)
        (λ u. at (set st d.note 3) u == 3 && listed (places_written M k u) r) d.note k.notes within
        (ap (λ n. n == 3 && listed W r) is) others in
        let now : one (at (set st d.note 3) d.note == 3 && listed W r) ≡ one (listed W r) =
        ap (λ n. one (n == 3 && listed W r)) here_ in
        omega (arith, h r l, total-set (turned_on M k r) vs id v w here)
      where
        others : (u : ℕ) → u ≢ d.note → (at (set st d.note 3) u == 3 && listed (places_written M k u) r)
            ≡ (at st u == 3 && listed (places_written M k u) r)
        others u n = ⊎_elim (λ z. absurd (n z.0)) (λ z. ap (λ x. x == 3 && listed (places_written M k u) r) z.1)
            (put_cases st d.note 3 u low)

    -- the value of a turn word for the note that looks at it
    module _ (plan : IsPlan M k) (wt : List ℕ) (g : Gates k st wt) (D : Doers k st vs) (d : Doing)
        (doing : v.doing ≡ Some d) where
      running : at st d.note ≡ 2
      running = busy k st vs D id v d here doing

      writers_are : (r : ℕ) → d.note ≤ k.notes → listed (places_used M k d.note) r ≡ true
          → done_writers M k st r ≡ writers_before M k d.note r
      writers_are r low used =
          count_cut (λ u. at st u == 3 && listed (places_written M k u) r) (λ u. listed (places_written M k u) r) d.note
          k.notes low earlier later
        where
          uses : Contains (places_used M k d.note) r
          uses = listed_contains (places_used M k d.note) r used

          earlier : (u : ℕ) → u < d.note
              → (at st u == 3 && listed (places_written M k u) r) ≡ listed (places_written M k u) r
          earlier u l = ⊎_elim
              (λ y. ap (λ b. b && listed (places_written M k u) r) (eq-eqb (at st u) 3 (past M k plan st wt g u d.note
              (writer_user M k plan u d.note r l (listed_contains (places_written M k u) r y) uses)
              (λ z. omega (arith, running)))))
              (λ y. ap (λ b. at st u == 3 && b) y ∙ and_right (at st u == 3) false refl ∙ sym y)
              (cases_Bool (listed (places_written M k u) r))

          later : (u : ℕ) → d.note ≤ u → u < k.notes → (at st u == 3 && listed (places_written M k u) r) ≡ false
          later u l m = ⊎_elim
              (λ y. absurd (let parts = and_parts (at st u == 3) (listed (places_written M k u) r) y in
              let three : at st u ≡ 3 = eqb-true (at st u) 3 parts.0 in
              let c : at st d.note ≡ 3 = ⊎_elim
              (λ (e : d.note ≡ u). ap (at st) e ∙ three)
              (λ (n : d.note ≢ u). past M k plan st wt g d.note u
              (user_writer M k plan d.note u r (omega arith) uses (listed_contains (places_written M k u) r parts.1))
              (λ z. omega arith)) (cases_eq d.note u) in
              omega (arith, running)))
              (λ y. y) (cases_Bool (at st u == 3 && listed (places_written M k u) r))

      take_listed : (n : ℕ) (xs : List ℕ) (r : ℕ) → listed xs r ≡ false → listed (take n xs) r ≡ false
      take_listed n xs r h = ⊎_elim
          (λ y. absurd (let c = listed_contains (take n xs) r y in let z : true ≡ false =
          sym (in_whole n xs r y) ∙ h in cc)) (λ y. y) (cases_Bool (listed (take n xs) r))
        where
          in_whole : (n : ℕ) (xs : List ℕ) (r : ℕ) → listed (take n xs) r ≡ true → listed xs r ≡ true
          in_whole zero xs r h = absurd (cc)
          in_whole (suc n) [] r h = absurd (cc)
          in_whole (suc n) (x ∷ xs) r h = step (x == r) (listed (take n xs) r) (listed xs r) (in_whole n xs r) h
            where
              step : (a b c : Bool) → (b ≡ true → c ≡ true) → (a || b) ≡ true → (a || c) ≡ true
              step true b c f h = refl
              step false b c f h = f h

      pub looks_turn : (tw : List ℕ) (r : ℕ) → d.note ≤ k.notes → r < area_count k
          → listed (places_used M k d.note) r ≡ true → Turned M k st tw vs
          → at tw r ≡ writers_before M k d.note r + turned_on M k r v
      looks_turn tw r low l used h =
          omega (arith, h r l, writers_are r low used, total_only (turned_on M k r) vs id v here others)
        where
          others : (j : ℕ) (x : View J) → j ≢ id → get_elem? vs j ≡ some x → turned_on M k r x ≡ 0
          others j x n at_ = go x.doing refl
            where
              go : (o : Option Doing) → x.doing ≡ o → turned_on M k r x ≡ 0
              go None e = ap (turned_in M k r) e
              go (Some b) e = ⊎_elim
                  (λ y. absurd (apart k st vs D j id x v b d n at_ here e doing
                  (alone_on M k plan st wt g b.note d.note r (listed_contains (places_written M k b.note) r y)
                  (listed_contains (places_used M k d.note) r used) (busy k st vs D j x b at_ e) running)))
                  (λ y. ap (turned_in M k r) e ∙ ap one (take_listed (b.phase - 1) (places_written M k b.note) r y))
                  (cases_Bool (listed (places_written M k b.note) r))
