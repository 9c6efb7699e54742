-- Each kind of step on a word preserves the rule, and lets the seat know what it promises.
use Rattle.std.proofs.lemmas.{Grind.common_steps, Bool.cases_eq, List.set-get_or}
use Rattle.std.proofs.Common.{◌≡◌, ◌≢◌, ℕ, ◌+◌, ◌<◌, ◌≤◌, ⊎_elim, List, length, set, true, false, Some, None, refl, sym}
use Rattle.std.proofs.Common.{ap, ◌∙◌, subst, arith, slice_index, slice_set, eqb, eq-eqb, ne_eqb}
use Rattle.std.proofs.lemmas.Option.{same_Some, slice_get_within}
use mathlib.Core.Option.{some, none}
use prog.Atomic.{either}
use lib.ListN.{get_elem?}
use Rattle.atomic_table.specs.Table.{State, Act, keeps, stepped, step, Valid, carried_after, Allows}
use Rattle.cs_cells.specs.{Cells.signed, Meaning.Meaning, Meaning.Frames}
use Rattle.cs_graph.specs.Graph.{Edge}
use Rattle.cs_board.specs.{Counts.listed, Rule.Facts, Rule.Holds, declared.view.Berth.Berth, declared.view.Doing.Doing}
use Rattle.cs_board.specs.{declared.view.Plan.Plan, declared.view.View.View}
use Rattle.cs_board.specs.Facts.{turned_in, Pictured}
use Rattle.cs_board.specs.Plans.{uses_at, places_used, places_written, writers_before, area_count, edge_count}
use Rattle.cs_board.specs.Plays.{Sat, finished, closed, watched, opens, claimed, looked, looked_status, looked_turn}
use Rattle.cs_board.specs.Views.{began, missed, ended, shut, settled, passed, opened}
use Rattle.cs_board.specs.Words.{Words, at, all_words, IsSized, status_at, watch_at, turn_at, cell_at}
use Rattle.cs_board.proofs.{Begins.facts_began, Begins.facts_missed, Ends.facts_ended, Ends.facts_shut, Lists.set_again}
use Rattle.cs_board.proofs.{Lists.within_of, AllWords.sized_watch, Does.busy, Turns.looks_turn}
use Rattle.cs_board.proofs.Moves.{facts_settled, facts_passed, facts_opened}
use Rattle.cs_board.proofs.AllWords.{get_status, get_watch, get_turn, get_cell, set_status, set_watch, sized_status}
use mathlib.Core.Option as maybe

-- the two cases of an exchange
exchanged : (n old new : ℕ) (P : ℕ → Type 0) → (n ≡ old → P new) → (n ≢ old → P n) → P (either (eqb n old) new n)
exchanged n old new P hit miss = grind (arith, common_steps, cases_eq, either, eq-eqb, ne_eqb)

module _ {J : Type 0} (M : Meaning J) (k : Plan J) where
  -- the rule after a step, from the words' parts and the facts
  pub holds_after : (s : State (Berth J) (View J)) (h : Holds M k s) (ws : List ℕ) (p : Words)
      (hs : List (maybe.Option (Berth J))) (vs : List (View J))
      → ws ≡ all_words p → IsSized k p → length hs ≡ length s.homes
      → ((i : ℕ) → k.notes ≤ i → get_elem? hs i ≡ get_elem? s.homes i)
      → Facts M k p hs vs → Holds M k (record { words = ws; homes = hs; views = vs })
  holds_after s h ws p hs vs words sized deep past facts = grind (arith, common_steps)

  pub word_kept : (s : State (Berth J) (View J)) (h : Holds M k s) (i : ℕ)
      → slice_set s.words i (slice_index s.words i) ≡ all_words h.parts
  word_kept s h i = set-get_or s.words i 0 ∙ h.words

  pub word_set : (s : State (Berth J) (View J)) (h : Holds M k s) (i x : ℕ) (p : Words)
      → set (all_words h.parts) i x ≡ all_words p → slice_set s.words i x ≡ all_words p
  word_set s h i x p e = ap (λ ws. set ws i x) h.words ∙ e

  pub status_is : (s : State (Berth J) (View J)) (h : Holds M k s) (t : ℕ) → t < k.notes
      → slice_index s.words (status_at k t) ≡ at h.parts.status t
  status_is s h t low = ap (λ ws. at ws (status_at k t)) h.words ∙ get_status k h.parts h.sized t low

  pub watch_is : (s : State (Berth J) (View J)) (h : Holds M k s) (e : ℕ) → e < edge_count k
      → slice_index s.words (watch_at k e) ≡ at h.parts.watch e
  watch_is s h e low = ap (λ ws. at ws (watch_at k e)) h.words ∙ get_watch k h.parts h.sized e low

  -- different parts of the words have different numbers
  one_status : (m : Plan J) (t u : ℕ) → m ≡ k → status_at k t ≡ status_at m u → t ≡ u
  one_status m t u same z = let y : status_at k t ≡ status_at k u =
      subst (λ q. status_at k t ≡ status_at q u) same z in omega arith

  one_watch : (m : Plan J) (e f : ℕ) → m ≡ k → watch_at k e ≡ watch_at m f → e ≡ f
  one_watch m e f same z = let y : watch_at k e ≡ watch_at k f =
      subst (λ q. watch_at k e ≡ watch_at q f) same z in omega arith

  pub one_cell : (a b : ℕ) → cell_at a ≡ cell_at b → a ≡ b
  one_cell a b z = omega arith

  pub one_turn : (m : Plan J) (a b : ℕ) → m ≡ k → turn_at k a ≡ turn_at m b → a ≡ b
  one_turn m a b same z = let y : turn_at k a ≡ turn_at k b =
      subst (λ q. turn_at k a ≡ turn_at q b) same z in omega arith

  one_edge : (m : Plan J) (e q t r u : ℕ) → m ≡ k → Edge k.edges e q t → Edge m.edges e r u → (q ≡ r) × (t ≡ u)
  one_edge m e q t r u same a b = let b' : Edge k.edges e r u = subst (λ z. Edge z.edges e r u) same b in
      let s : (q, t) ≡ (r, u) = same_Some _ _ (sym a ∙ b') in (ap (λ z. z.0) s, ap (λ z. z.1) s)

  module _ (F : Frames M) (n id : ℕ) (m : Sat J) (plan : m.0.plan ≡ k) where
    pub claims : (t : ℕ) → t < k.notes → m.0.doing ≡ None → m.0.closing ≡ None → m.0.moving ≡ None → m.0.spent ≡ false
        → Allows (Holds M k) n id m (status_at k t) (λ y. either (eqb y 1) 2 y)
        (claimed M (step n (status_at k t) 1 2 none) m)
    claims t low idle no_closing no_moving live s h deep here fits =
        let x : ℕ = slice_index s.words (status_at k t) in
        exchanged x 1 2 (λ y. (w : View J) × (a : Act (Berth J)) × Valid s.homes m.1 a
        × Holds M k (stepped s (status_at k t) y id m.1 w a)
        × claimed M (step n (status_at k t) 1 2 none) m x (w, carried_after m.1 a))
        (λ hit. (
          began M m.0 t,
          keeps,
          tt,
          holds_after s h (slice_set s.words (status_at k t) 2) (record h.parts { status = set h.parts.status t 2 })
              s.homes (set s.views id (began M m.0 t))
              (word_set s h (status_at k t) 2 (record h.parts { status = set h.parts.status t 2 })
              (set_status k h.parts h.sized t 2 low)) (sized_status k h.parts h.sized t 2) refl (λ i far. refl)
              (facts_began M F k h.plan h.parts h.sized s.homes s.views id m.0 here h.facts t low
              (sym (status_is s h t low) ∙ hit) plan idle no_closing no_moving live),
          λ u e. let same_ : t ≡ u =
              one_status m.0.plan t u plan e in ((λ y. ap (λ z. (began M m.0 z, m.1)) same_), (λ y. absurd (y hit))),
        ))
        (λ miss. (
          missed m.0 t,
          keeps,
          tt,
          holds_after s h (slice_set s.words (status_at k t) x) h.parts s.homes (set s.views id (missed m.0 t))
              (word_kept s h (status_at k t)) h.sized refl (λ i far. refl)
              (facts_missed M F k h.plan h.parts h.sized s.homes s.views id m.0 here h.facts t
              (λ e. miss (status_is s h t low ∙ e)) live),
          λ u e. let same_ : t ≡ u =
              one_status m.0.plan t u plan e in ((λ y. absurd (miss y)), (λ y. ap (λ z. (missed m.0 z, m.1)) same_)),
        ))

    -- a load that changes nothing
    rule_again : (s : State (Berth J) (View J)) (h : Holds M k s) (i : ℕ) → get_elem? s.views id ≡ some m.0
        → Holds M k (stepped s i (slice_index s.words i) id m.1 m.0 keeps)
    rule_again s h i here = grind (arith, common_steps, holds_after, set_again, slice_index, word_kept)

    pub looks : (a : ℕ) → Allows (Holds M k) n id m (cell_at a) (λ y. y) (looked M (step n (cell_at a) 0 0 none) m)
    looks a s h deep here fits = (
      m.0,
      keeps,
      tt,
      rule_again s h (cell_at a) here,
      (
        refl,
        λ b d e low doing used.
            let same_ : a ≡ b = one_cell a b e in
            let picture : Pictured M k h.parts.cells d = h.facts.stored.images id m.0 d here doing in
            let near : b < length k.cells = subst (λ z. b < length z.cells) plan low in
            ap signed (ap (λ ws. at ws (cell_at a)) h.words ∙ ap (λ z. at (all_words h.parts) (cell_at z)) same_
            ∙ get_cell k h.parts h.sized b near)
            ∙ picture.seen b near (subst (λ z. uses_at M z d.note b ≡ true) plan used),
      ),
    )

    pub looks_at_status : (t : ℕ) → t < k.notes → m.0.spent ≡ false
        → Allows (Holds M k) n id m (status_at k t) (λ y. y) (looked_status (step n (status_at k t) 0 0 none) m)
    looks_at_status t low live s h deep here fits = ⊎_elim
        (λ hit. (m.0, keeps, tt, rule_again s h (status_at k t) here, λ u e. ((λ y. refl), (λ y. absurd (y hit)))))
        (λ miss. (
          missed m.0 t,
          keeps,
          tt,
          holds_after s h (slice_set s.words (status_at k t) (slice_index s.words (status_at k t))) h.parts s.homes
              (set s.views id (missed m.0 t)) (word_kept s h (status_at k t)) h.sized refl (λ i far. refl)
              (facts_missed M F k h.plan h.parts h.sized s.homes s.views id m.0 here h.facts t
              (λ e. miss (status_is s h t low ∙ e)) live),
          λ u e. let same_ : t ≡ u =
              one_status m.0.plan t u plan e in ((λ y. absurd (miss y)), (λ y. ap (λ z. (missed m.0 z, m.1)) same_)),
        ))
        (cases_eq (slice_index s.words (status_at k t)) 1)

    pub looks_at_turn : (r : ℕ)
        → Allows (Holds M k) n id m (turn_at k r) (λ y. y) (looked_turn M (step n (turn_at k r) 0 0 none) m)
    looks_at_turn r s h deep here fits = (
      m.0,
      keeps,
      tt,
      rule_again s h (turn_at k r) here,
      (
        refl,
        λ b d e low doing used.
            let same_ : r ≡ b = one_turn m.0.plan r b plan e in
            let low_k : b < area_count k = subst (λ z. b < area_count z) plan low in
            let used_k : listed (places_used M k d.note) b ≡ true =
            subst (λ z. listed (places_used M z d.note) b ≡ true) plan used in
            let running : at h.parts.status d.note ≡ 2 =
            busy k h.parts.status s.views h.facts.doers id m.0 d here doing in
            let within : d.note < length h.parts.status =
            within_of h.parts.status d.note (λ z. omega (arith, running)) in
            ap (λ ws. at ws (turn_at k r)) h.words ∙ ap (λ z. at (all_words h.parts) (turn_at k z)) same_
            ∙ get_turn k h.parts h.sized b low_k
            ∙ looks_turn M k h.parts.status s.views id m.0 m.0 here h.plan h.parts.watch h.facts.gates h.facts.doers d
            doing h.parts.turns b (omega (arith, within, h.sized.status)) low_k used_k h.facts.turned
            ∙ subst (λ z. writers_before M k d.note b + turned_in M k b m.0.doing ≡ writers_before M z d.note b +
            turned_in M z b m.0.doing) (sym plan) refl,
      ),
    )

    pub finishes : (d : Doing) → m.0.doing ≡ Some d → d.held ≡ false → d.phase ≡ 1 + length (places_written M k d.note)
        → m.0.spent ≡ false → Allows (Holds M k) n id m (status_at k d.note) (λ _. 3)
        (λ _. finished (step n (status_at k d.note) 3 0 none) m 3)
    finishes d doing free phase live s h deep here fits =
        let running : at h.parts.status d.note ≡ 2 = busy k h.parts.status s.views h.facts.doers id m.0 d here doing in
        let near : d.note < length h.parts.status = within_of h.parts.status d.note (λ z. omega (arith, running)) in (
          ended m.0 d.note,
          keeps,
          tt,
          holds_after s h (slice_set s.words (status_at k d.note) 3)
              (record h.parts { status = set h.parts.status d.note 3 }) s.homes (set s.views id (ended m.0 d.note))
              (word_set s h (status_at k d.note) 3 (record h.parts { status = set h.parts.status d.note 3 })
              (set_status k h.parts h.sized d.note 3 (omega (arith, h.sized.status))))
              (sized_status k h.parts h.sized d.note 3) refl (λ i far. refl)
              (facts_ended M F k h.plan h.parts h.sized s.homes s.views id m.0 here h.facts d plan doing free phase
              live),
          λ u e. let same_ : d.note ≡ u = one_status m.0.plan d.note u plan e in ap (λ z. (ended m.0 z, m.1)) same_,
        )

    pub closes_edge : (e q t i : ℕ) → Edge k.edges e q t → m.0.closing ≡ Some (record { note = q; from = i })
        → m.0.moving ≡ None → i ≤ e → ((g u : ℕ) → Edge k.edges g q u → i ≤ g → e ≤ g) → m.0.spent ≡ false
        → Allows (Holds M k) n id m (watch_at k e) (λ _. 2) (closed (step n (watch_at k e) 2 0 none) m)
    closes_edge e q t i edge closing no_moving low first live s h deep here fits =
        let near : e < edge_count k = slice_get_within k.edges e (q, t) edge in
        let x : ℕ = slice_index s.words (watch_at k e) in
        let is : x ≡ at h.parts.watch e = watch_is s h e near in (
          shut m.0 e q t x,
          keeps,
          tt,
          holds_after s h (slice_set s.words (watch_at k e) 2) (record h.parts { watch = set h.parts.watch e 2 })
              s.homes (set s.views id (shut m.0 e q t x))
              (word_set s h (watch_at k e) 2 (record h.parts { watch = set h.parts.watch e 2 })
              (set_watch k h.parts h.sized e 2 near)) (sized_watch k h.parts h.sized e 2) refl (λ i far. refl)
              (subst (λ y. Facts M k (record h.parts { watch = set h.parts.watch e 2 }) s.homes
              (set s.views id (shut m.0 e q t y))) (sym is)
              (facts_shut M F k h.plan h.parts h.sized s.homes s.views id m.0 here h.facts e q t i edge plan closing
              no_moving low first live)),
          λ e' q' t' word edge'.
              let same_e : e ≡ e' = one_watch m.0.plan e e' plan word in
              let both = one_edge m.0.plan e q t q' t' plan edge
              (subst (λ z. Edge m.0.plan.edges z q' t') (sym same_e) edge') in
              ap (λ z. (shut m.0 z q t x, m.1)) same_e ∙ ap (λ z. (shut m.0 e' z t x, m.1)) both.0
              ∙ ap (λ z. (shut m.0 e' q' z x, m.1)) both.1,
        )

    pub watches_edge : (e q t i : ℕ) → Edge k.edges e q t → m.0.moving ≡ Some (record { note = t; from = i }) → i ≤ e
        → ((g r : ℕ) → Edge k.edges g r t → i ≤ g → e ≤ g) → m.0.spent ≡ false
        → Allows (Holds M k) n id m (watch_at k e) (λ y. either (eqb y 0) 1 y)
        (watched (step n (watch_at k e) 0 1 none) m)
    watches_edge e q t i edge moving low first live s h deep here fits =
        let x : ℕ = slice_index s.words (watch_at k e) in
        let near : e < edge_count k = slice_get_within k.edges e (q, t) edge in
        exchanged x 0 1 (λ y. (w : View J) × (a : Act (Berth J)) × Valid s.homes m.1 a
        × Holds M k (stepped s (watch_at k e) y id m.1 w a)
        × watched (step n (watch_at k e) 0 1 none) m x (w, carried_after m.1 a))
        (λ hit. (
          settled m.0,
          keeps,
          tt,
          holds_after s h (slice_set s.words (watch_at k e) 1) (record h.parts { watch = set h.parts.watch e 1 })
              s.homes (set s.views id (settled m.0))
              (word_set s h (watch_at k e) 1 (record h.parts { watch = set h.parts.watch e 1 })
              (set_watch k h.parts h.sized e 1 near)) (sized_watch k h.parts h.sized e 1) refl (λ i far. refl)
              (facts_settled M F k h.plan h.parts h.sized s.homes s.views id m.0 here h.facts t i moving live e q edge
              low first (sym (watch_is s h e near) ∙ hit)),
          λ e' q' t' word edge'. ((λ y. refl), (λ y. absurd (y hit))),
        ))
        (λ miss. (
          passed m.0 t e,
          keeps,
          tt,
          holds_after s h (slice_set s.words (watch_at k e) x) h.parts s.homes (set s.views id (passed m.0 t e))
              (word_kept s h (watch_at k e)) h.sized refl (λ i far. refl)
              (facts_passed M F k h.plan h.parts h.sized s.homes s.views id m.0 here h.facts t i moving live e q edge
              low first (λ z. miss (watch_is s h e near ∙ z))),
          λ e' q' t' word edge'.
              let same_e : e ≡ e' = one_watch m.0.plan e e' plan word in
              let both = one_edge m.0.plan e q t q' t' plan edge
              (subst (λ z. Edge m.0.plan.edges z q' t') (sym same_e) edge') in (
                (λ y. absurd (miss y)),
                (λ y. ap (λ z. (passed m.0 z e, m.1)) both.1 ∙ ap (λ z. (passed m.0 t' z, m.1)) same_e),
              ),
        ))

    pub opens_note : (t i : ℕ) → t < k.notes → m.0.moving ≡ Some (record { note = t; from = i })
        → ((g r : ℕ) → Edge k.edges g r t → g < i) → m.0.spent ≡ false
        → Allows (Holds M k) n id m (status_at k t) (λ _. 1) (λ _. opens (step n (status_at k t) 1 0 none) m 1)
    opens_note t i low moving last live s h deep here fits = (
      opened m.0 t,
      keeps,
      tt,
      holds_after s h (slice_set s.words (status_at k t) 1) (record h.parts { status = set h.parts.status t 1 }) s.homes
          (set s.views id (opened m.0 t))
          (word_set s h (status_at k t) 1 (record h.parts { status = set h.parts.status t 1 })
          (set_status k h.parts h.sized t 1 low)) (sized_status k h.parts h.sized t 1) refl (λ i far. refl)
          (facts_opened M F k h.plan h.parts h.sized s.homes s.views id m.0 here h.facts t i moving live last),
      λ u e. let same_ : t ≡ u = one_status m.0.plan t u plan e in ap (λ z. (opened m.0 z, m.1)) same_,
    )
