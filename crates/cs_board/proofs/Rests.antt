-- The rule of a complete performance: the steps of a cycle preserve it, and so do the steps of a board that
-- rests, the beginning of a cycle and its end.
use Rattle.std.proofs.lemmas.{Grind.common_steps, Bool.cases_eq, Option.same_Some}
use Rattle.std.proofs.Common.{◌≡◌, ◌≢◌, ℕ, zero, suc, ◌+◌, ◌<◌, ◌≤◌, inl, inr, ⊎_elim, List, [], ◌∷◌, map, length, set}
use Rattle.std.proofs.Common.{replicate, false, Option, Some, None, refl, sym, ap, ◌∙◌, subst, arith, slice_get}
use Rattle.std.proofs.Common.{slice_index, slice_set, eqb, eq-eqb, ne_eqb, zero-add}
use Rattle.std.proofs.lemmas.List.{length-map, length-replicate, map-set, set-get_or}
use mathlib.Core.Option.{some, none, some-injective, some-ne-none}
use prog.Atomic.{either}
use lib.ListN.{get_elem?}
use Rattle.atomic_table.specs.Table.{State, keeps, takes, gives, step, put_back, Allows, Splits, Joins, opening}
use Rattle.cs_cells.specs.{Cells.values, Meaning.Meaning, Meaning.Frames}
use Rattle.cs_graph.specs.Graph.{Dependencies}
use Rattle.cs_board.specs.{Ending.IsLast, Ending.IsOver, Plans.IsPlan, Views.resting_view, Words.at, Words.all_words}
use Rattle.cs_board.specs.{Opening.opening_words, declared.view.Berth.Berth, declared.view.Plan.Plan}
use Rattle.cs_board.specs.{declared.view.Still.Still, declared.view.View.View}
use Rattle.cs_board.specs.Plays.{Sat, lays, reads, reaches, leaves, begins, ends}
use Rattle.cs_board.specs.Rule.{Holds, Always, home_in, stillness}
use Rattle.cs_board.specs.Views.{spent_view, laid, with_word, with_home, graph_told, slot_row, plan_laid, opening_view}
use Rattle.cs_board.specs.declared.view.Berth.TheVariants.{Vacant, Full}
use Rattle.cs_board.proofs.{Closing.ends_over, Closing.spent, Lists.set_here, Lists.set_else}
use Rattle.cs_board.proofs.Opening.{opening_facts, opening_sized}
use mathlib.Core.Option as maybe

within_get : {A : Type 0} (l : List A) (i : ℕ) (a : A) → get_elem? l i ≡ some a → i < length l
within_get [] i a e = absurd (some-ne-none a (sym e))
within_get (x ∷ xs) zero a e = omega arith
within_get (x ∷ xs) (suc i) a e = let h : i < length xs = within_get xs i a e in omega arith

module _ {J : Type 0} where
  -- what is known about a slot's content is its content
  home_at : (hs : List (maybe.Option (Berth J))) (t : ℕ) (b : Berth J) → slice_get (map home_in hs) t ≡ Some (Some b)
      → get_elem? hs t ≡ some (some b)
  home_at [] t b e = absurd (cc)
  home_at (none ∷ hs) zero b e = absurd (let z : None ≡ Some b = same_Some _ _ e in cc)
  home_at (some x ∷ hs) zero b e = ap (λ z. some (some z)) (same_Some _ _ (same_Some _ _ e))
  home_at (none ∷ hs) (suc t) b e = home_at hs t b e
  home_at (some x ∷ hs) (suc t) b e = home_at hs t b e

  -- the slots of a row
  row_job : (js : List J) (n t : ℕ) (j : J) → slice_get js t ≡ Some j
      → slice_get (slot_row 0 js n) t ≡ Some (Some (Full j))
  row_job [] n t j e = absurd (cc)
  row_job (x ∷ js) n zero j e = ap (λ z. Some (Some (Full z))) (same_Some _ _ e)
  row_job (x ∷ js) n (suc t) j e = row_job js n t j e

  row_vacant : (js : List J) (n i : ℕ) → length js ≤ i → i < length js + n
      → slice_get (slot_row 0 js n) i ≡ Some (Some Vacant)
  row_vacant [] zero i far near = absurd (omega arith)
  row_vacant [] (suc n) zero far near = refl
  row_vacant [] (suc n) (suc i) far near = row_vacant [] n i (omega arith) (omega arith)
  row_vacant (x ∷ js) n zero far near = absurd (omega arith)
  row_vacant (x ∷ js) n (suc i) far near = row_vacant js n i (omega arith) (omega arith)

  row_length : (js : List J) (n : ℕ) → length (slot_row 0 js n) ≡ length js + n
  row_length [] n = grind (arith, common_steps, length-replicate, zero-add)
  row_length (x ∷ js) n = let h : length (slot_row 0 js n) ≡ length js + n = row_length js n in omega arith

  vacant_homes : (n : ℕ) (b : Berth J) → map home_in (map some (replicate n b)) ≡ replicate n (Some b)
  vacant_homes zero b = refl
  vacant_homes (suc n) b = ap (λ l. Some b ∷ l) (vacant_homes n b)

module _ {J : Type 0} (M : Meaning J) where
  module _ (s : State (Berth J) (View J)) (id : ℕ) (v : View J) (here : get_elem? s.views id ≡ some v)
      (live : v.spent ≡ false) where
    -- if a view isn't at rest, the board is being played
    playing : v.rest ≡ None → Always M s → (k : Plan J) × Holds M k s
    playing rest a = grind (arith, common_steps, cases_eq, some-injective, spent)

    pub plays : (k : Plan J) → v.rest ≡ None → v.plan ≡ k → Always M s → Holds M k s
    plays k rest plan a = let h = playing rest a in
        subst (λ z. Holds M z s) (sym ((h.1.facts.sane id v here).plan live) ∙ plan) h.1

    -- if a view is at rest, so is the board, and the view knows it
    rests : (w : Still J) → v.rest ≡ Some w → Always M s
        → (w ≡ stillness s) × ((j : ℕ) (x : View J) → j ≢ id → get_elem? s.views j ≡ some x → x ≡ spent_view)
    rests w rest a = grind (arith, common_steps, cases_eq, playing, same_Some, some-injective, spent)

    -- the board rests after a step of the view
    resting : (ws : List ℕ) (hs : List (maybe.Option (Berth J))) (v' : View J) → v'.spent ≡ false
        → v'.rest ≡ Some (record { words = ws; homes = map home_in hs })
        → ((j : ℕ) (x : View J) → j ≢ id → get_elem? s.views j ≡ some x → x ≡ spent_view)
        → Always M (record { words = ws; homes = hs; views = set s.views id v' })
    resting ws hs v' live' knows others = inr (record {
      id = id;
      view = v';
      here = set_here s.views id v' (within_get s.views id v here);
      live = live';
      knows = knows;
      others = λ j x n at_. others j x n (sym (set_else s.views id j v' n) ∙ at_);
    })

  -- the steps of a cycle
  module _ (k : Plan J) (n id : ℕ) (m : Sat J) (live : m.0.spent ≡ false) (rest : m.0.rest ≡ None) (plan : m.0.plan ≡ k)
    where
      pub lift : (i : ℕ) (f : ℕ → ℕ) (then : ℕ → Sat J → Type 0) → Allows (Holds M k) n id m i f then
          → Allows (Always M) n id m i f then
      lift i f then goes s a deep here fits =
          let r = goes s (plays s id m.0 here live k rest plan a) deep here fits in (r.0, r.1, r.2, inl (k, r.3), r.4)

  pub lift_split : (k : Plan J) (id : ℕ) (v left right : View J) → v.spent ≡ false → v.rest ≡ None → v.plan ≡ k
      → Splits (Holds M k) id v left right → Splits (Always M) id v left right
  lift_split k id v left right live rest plan goes s a here =
      inl (k, goes s (plays s id v here live k rest plan a) here)

  pub lift_join : (k : Plan J) (id : ℕ) (v : View J) (other : ℕ) (u both spent : View J) → v.spent ≡ false
      → v.rest ≡ None → v.plan ≡ k
      → Joins (Holds M k) id v other u both spent → Joins (Always M) id v other u both spent
  lift_join k id v other u both spent live rest plan goes s a here apart there =
      inl (k, goes s (plays s id v here live k rest plan a) here apart there)

  -- the steps of a board that rests
  module _ (n id : ℕ) (m : Sat J) (live : m.0.spent ≡ false) (w : Still J) (rest : m.0.rest ≡ Some w) where
    pub lays_word : (i x : ℕ) → Allows (Always M) n id m i (λ _. x) (λ _. lays (step n i x 0 none) m x)
    lays_word i x s a deep here fits =
        let r = rests s id m.0 here live w rest a in
        let w' : Still J = with_word w i x in (
          laid m.0 w',
          keeps,
          tt,
          resting s id m.0 here live (slice_set s.words i x) s.homes (laid m.0 w') live
              (ap (λ z. Some (with_word z i x)) r.0) r.1,
          λ y is. ap (λ z. (laid m.0 (with_word z i x), m.1)) (same_Some _ _ (sym rest ∙ is)),
        )

    pub reads_word : (i : ℕ) → Allows (Always M) n id m i (λ y. y) (reads (step n i 0 0 none) m)
    reads_word i s a deep here fits =
        let r = rests s id m.0 here live w rest a in (
          m.0,
          keeps,
          tt,
          resting s id m.0 here live (slice_set s.words i (slice_index s.words i)) s.homes m.0 live
              (rest ∙ ap Some r.0 ∙ ap (λ z. Some (record { words = z; homes = map home_in s.homes }))
              (sym (set-get_or s.words i 0))) r.1,
          (refl, λ y is. ap (λ z. at z.words i) (sym r.0 ∙ same_Some _ _ (sym rest ∙ is))),
        )

    pub reaches_slot : (t : ℕ) (b : Berth J) → slice_get w.homes t ≡ Some (Some b)
        → Allows (Always M) n id m t (λ y. y) (reaches (step n t 0 0 none) m)
    reaches_slot t b lies s a deep here fits =
        let r = rests s id m.0 here live w rest a in
        let w' : Still J = with_home w t None in (
          laid m.0 w',
          takes t b,
          home_at s.homes t b (ap (λ z. slice_get z.homes t) (sym r.0) ∙ lies),
          resting s id m.0 here live (slice_set s.words t (slice_index s.words t)) (slice_set s.homes t none)
              (laid m.0 w') live (ap (λ z. Some (with_home z t None)) r.0
              ∙ ap (λ z. Some (record { words = s.words; homes = z })) (sym (map-set home_in s.homes t none))
              ∙ ap (λ z. Some (record { words = z; homes = map home_in (slice_set s.homes t none) }))
              (sym (set-get_or s.words t 0))) r.1,
          λ y c is lies'.
              let same_w : w ≡ y = same_Some _ _ (sym rest ∙ is) in
              let same_b : b ≡ c = same_Some _ _
              (same_Some _ _ (sym lies ∙ ap (λ z. slice_get z.homes t) same_w ∙ lies')) in
              ap (λ z. (laid m.0 (with_home z t None), (t, b) ∷ m.1)) same_w
              ∙ ap (λ z. (laid m.0 (with_home y t None), (t, z) ∷ m.1)) same_b,
        )

    pub leaves_slot : (t : ℕ) (b : Berth J) (i : ℕ) → m.1 ≡ (t, b) ∷ []
        → Allows (Always M) n id m i (λ y. y) (leaves (step n i 0 0 none) m)
    leaves_slot t b i carries s a deep here fits =
        let r = rests s id m.0 here live w rest a in
        let w' : Still J = with_home w t (Some b) in
        let hs : List (maybe.Option (Berth J)) = slice_set s.homes t (some b) in
        let back : put_back s.homes m.1 ≡ hs = ap (put_back s.homes) carries in (
          laid m.0 w',
          gives,
          tt,
          subst (λ z. Always M (record
              { words = slice_set s.words i (slice_index s.words i); homes = z; views = set s.views id (laid m.0 w') }))
              (sym back) (resting s id m.0 here live (slice_set s.words i (slice_index s.words i)) hs (laid m.0 w') live
              (ap (λ z. Some (with_home z t (Some b))) r.0
              ∙ ap (λ z. Some (record { words = s.words; homes = z })) (sym (map-set home_in s.homes t (some b)))
              ∙ ap (λ z. Some (record { words = z; homes = map home_in hs })) (sym (set-get_or s.words i 0))) r.1),
          λ y u c is held.
              let same_w : w ≡ y = same_Some _ _ (sym rest ∙ is) in
              let same_p = ap (first_or (t, b)) (sym carries ∙ held) in
              ap (λ z. (laid m.0 (with_home z t (Some b)), rest_of m.1)) same_w
              ∙ ap (λ z. (laid m.0 (with_home y z.0 (Some z.1)), rest_of m.1)) same_p
              ∙ ap (λ z. (laid m.0 (with_home y u (Some c)), rest_of z)) carries,
        )
      where
        first_or : ℕ × Berth J → List (ℕ × Berth J) → ℕ × Berth J
        first_or y [] = y
        first_or y (x ∷ xs) = x

        rest_of : List (ℕ × Berth J) → List (ℕ × Berth J)
        rest_of [] = []
        rest_of (x ∷ xs) = xs

    -- a cycle begins, while all other views are spent
    pub begins_cycle : (b : Berth J) (graph : Dependencies) (k : Plan J) (ws spare : List ℕ) (c : ℕ)
        → graph_told b ≡ Some graph → plan_laid m.0.plan.areas w graph ≡ k → IsPlan M k → values ws ≡ k.cells
        → length spare ≡ k.spare → w.words ≡ all_words (opening_words k ws spare) → w.homes ≡ slot_row 0 k.jobs c
        → Allows (Always M) n id m 0 (λ y. either (eqb y 0) 0 y) (begins (step n 0 0 0 (some b)) m)
    begins_cycle b graph k ws spare c is_told told plan cells long words homes s a deep here fits =
        let r = rests s id m.0 here live w rest a in
        let v' : View J = opening_view k in
        let x : ℕ = slice_index s.words 0 in
        let same_x : either (eqb x 0) 0 x ≡ x = ⊎_elim
        (λ e. ap (λ b. either b 0 x) (eq-eqb x 0 e) ∙ sym e)
        (λ ne. ap (λ b. either b 0 x) (ne_eqb x 0 ne)) (cases_eq x 0) in
        let known : map home_in s.homes ≡ slot_row 0 k.jobs c = ap (λ z. z.homes) (sym r.0) ∙ homes in
        let count : length s.homes ≡ length k.jobs + c =
        sym (length-map s.homes home_in) ∙ ap length known ∙ row_length k.jobs c in (
          v',
          keeps,
          tt,
          inl (
            k,
            record {
              plan = plan;
              parts = opening_words k ws spare;
              words = ap (slice_set s.words 0) same_x ∙ set-get_or s.words 0 0 ∙ ap (λ z. z.words) (sym r.0) ∙ words;
              sized = opening_sized M k ws spare cells long s.homes
                  (λ t j e. home_at s.homes t (Full j) (ap (λ z. slice_get z t) known ∙ row_job k.jobs c t j e))
                  (set s.views id v') id (set_here s.views id v' (within_get s.views id m.0 here))
                  (λ j y d at_. r.1 j y d (sym (set_else s.views id j v' d) ∙ at_));
              deep = omega (arith, count, plan.jobs);
              vacant = λ i far near. home_at s.homes i Vacant (ap (λ z. slice_get z i) known
                  ∙ row_vacant k.jobs c i (omega (arith, plan.jobs, far)) (omega (arith, count, near)));
              facts = opening_facts M k ws spare cells long s.homes
                  (λ t j e. home_at s.homes t (Full j) (ap (λ z. slice_get z t) known ∙ row_job k.jobs c t j e))
                  (set s.views id v') id (set_here s.views id v' (within_get s.views id m.0 here))
                  (λ j y d at_. r.1 j y d (sym (set_else s.views id j v' d) ∙ at_));
            },
          ),
          λ y b' graph' is said is_told'.
              let same_w : w ≡ y = same_Some _ _ (sym rest ∙ is) in
              let same_g : graph ≡ graph' =
              same_Some _ _ (sym is_told ∙ ap graph_told (some-injective _ _ said) ∙ is_told') in
              ap (λ z. (opening_view z, m.1)) (sym told)
              ∙ ap (λ z. (opening_view (plan_laid m.0.plan.areas z graph), m.1)) same_w
              ∙ ap (λ z. (opening_view (plan_laid m.0.plan.areas y z), m.1)) same_g,
        )

  -- a cycle ends
  pub ends_cycle : Frames M → (n id : ℕ) (m : Sat J) → m.0.spent ≡ false → IsLast m.0
      → Allows (Always M) n id m 0 (λ y. y) (ends M (step n 0 0 0 none) m)
  ends_cycle F n id m live last s a deep here fits =
      let k : Plan J = m.0.plan in
      let h : Holds M k s = plays s id m.0 here live k last.playing refl a in
      let ws : List ℕ = slice_set s.words 0 (slice_index s.words 0) in
      let w : Still J = record { words = ws; homes = map home_in s.homes } in
      let over : IsOver k M w =
      subst (λ z. IsOver k M (record { words = z; homes = map home_in s.homes })) (sym (set-get_or s.words 0 0))
      (ends_over M F k s h (id, m.0, here, last)) in (
        resting_view k.areas w,
        keeps,
        tt,
        resting s id m.0 here live ws s.homes (resting_view k.areas w) refl refl
            (λ j x d at_. (h.facts.sane j x at_).over
            (spent M F k h.plan h.parts h.sized s.homes s.views h.facts id m.0 here last j x d at_)),
        (w, over, length-map s.homes home_in ∙ deep, refl),
      )

  -- a table with vacant slots rests
  pub starts : (v : View J) (ws : List ℕ) (n : ℕ) → v.spent ≡ false
      → v.rest ≡ Some (record { words = ws; homes = replicate n (Some Vacant) })
      → Always M (opening ws (replicate n Vacant) v)
  starts v ws n live rest = grind (arith, common_steps, some, some-ne-none, vacant_homes)
