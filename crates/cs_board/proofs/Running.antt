-- The steps of a note that runs: its job goes out, cells are set, turns are made, and the job goes back.
use Rattle.std.proofs.Common.{◌≡◌, ◌≢◌, ℕ, zero, suc, ◌+◌, ◌-◌, ◌<◌, ◌≤◌, ⊎_elim, List, [], ◌∷◌, length, get_or, set}
use Rattle.std.proofs.Common.{take, Bool, true, false, Option, Some, None, refl, sym, ap, ◌∙◌, subst, arith, ◌==◌, ◌&&◌}
use Rattle.std.proofs.Common.{nat_le, slice_get, slice_index, slice_set, eq-eqb, ne_eqb, le-leb}
use Rattle.std.proofs.lemmas.{Option.same_Some, List.length-set}
use Rattle.std.specs.List.{Contains}
use mathlib.Core.Option.{some, none}
use lib.ListN.{get_elem?}
use Rattle.atomic_table.specs.Table.{State, keeps, takes, gives, step, put_back, rest, Allows}
use Rattle.cs_cells.specs.{Cells.signed, Meaning.Meaning, Meaning.Frames}
use Rattle.cs_board.specs.{Counts.one, Counts.same, Counts.listed, Counts.total, Rule.Holds, Plays.Sat, Plays.took}
use Rattle.cs_board.specs.{Plays.gave, Plays.set_cell, Plays.turned, Views.does, Views.set_image, Views.next_phase}
use Rattle.cs_board.specs.{declared.view.Berth.Berth, declared.view.Berth.TheVariants.Full, declared.view.Doing.Doing}
use Rattle.cs_board.specs.{declared.view.Plan.Plan, declared.view.View.View}
use Rattle.cs_board.specs.Facts.{job_if, doing_on, ran_on, turned_in, turned_on, does_note, ran_note, Pictured, Slots}
use Rattle.cs_board.specs.Plans.{writes_at, places_used, places_written, before_at, writers_before, area_count}
use Rattle.cs_board.specs.Words.{Words, at, own_at, turn_at, cell_at}
use Rattle.cs_board.proofs.Allowed.{holds_after, word_kept, word_set, one_cell}
use Rattle.cs_board.proofs.{Begins.facts_does, Counting.listed_fresh, Does.busy, Does.does_one, Groups.owned_step}
use Rattle.cs_board.proofs.{Slots.slots_moved, Slots.slots_still, Stores.stored_step, Stores.stored_set}
use Rattle.cs_board.proofs.Conflicts.{listed_of, written_rises, written_used, written_used_at, used_place, used_within}
use Rattle.cs_board.proofs.Lists.{put_cases, set_else, total_gap, within_of}
use Rattle.cs_board.proofs.AllWords.{set_own, set_turn, set_cell_word, sized_own, sized_turn, sized_cell}
use Rattle.cs_board.proofs.Turns.{turned_still, turned_more, looks_turn}
use mathlib.Core.Option as maybe

one_less : (a b : Bool) → one (a && b) ≤ one a
one_less true true = omega arith
one_less true false = omega arith
one_less false b = omega arith

ran_less : (t : ℕ) (o : Option Doing) → ran_on t o ≤ doing_on t o
ran_less t None = omega arith
ran_less t (Some d) = one_less (d.note == t) (nat_le 1 d.phase)

module _ {J : Type 0} (M : Meaning J) (k : Plan J) (F : Frames M) (n id : ℕ) (m : Sat J) (plan : m.0.plan ≡ k)
    (live : m.0.spent ≡ false) (d : Doing) (doing : m.0.doing ≡ Some d) where
  module _ (s : State (Berth J) (View J)) (h : Holds M k s) (here : get_elem? s.views id ≡ some m.0) where
    running : at h.parts.status d.note ≡ 2
    running = busy k h.parts.status s.views h.facts.doers id m.0 d here doing

    within : d.note < k.notes
    within = omega (arith, within_of h.parts.status d.note (λ z. omega (arith, running)), h.sized.status)

    picture : Pictured M k h.parts.cells d
    picture = h.facts.stored.images id m.0 d here doing

    -- a step that keeps the note, its phase and its image: only its job moves
    job_moved : (b : Bool) (i : ℕ) (hs : List (maybe.Option (Berth J))) → length hs ≡ length s.homes
        → ((j : ℕ) → k.notes ≤ j → get_elem? hs j ≡ get_elem? s.homes j)
        → Slots M k h.parts.status hs (set s.views id (does m.0 (record d { held = b }))) → Holds M k (record {
          words = slice_set s.words i (slice_index s.words i);
          homes = hs;
          views =
              set s.views id (does m.0 (record d { held = b }));
        })
    job_moved b i hs long past slots =
        let w : View J = does m.0 (record d { held = b }) in
        holds_after M k s h (slice_set s.words i (slice_index s.words i)) h.parts hs (set s.views id w)
        (word_kept M k s h i) h.sized long past
        (facts_does M F k h.plan h.parts h.sized s.homes s.views id m.0 here h.facts h.parts hs d
        (record d { held = b }) refl refl doing refl live
        (owned_step k s.views id m.0 w here h.parts.status h.parts.status h.parts.own h.parts.own
        (λ u. omega (arith, ap (ran_on u) doing)) h.facts.owned) slots
        (stored_step M F k h.plan h.parts.status h.parts.watch h.parts.cells s.views id m.0 w here h.facts.gates
        h.parts.status (λ u. refl) (λ u z. z)
        (λ e is. subst (Pictured M k h.parts.cells) (same_Some _ _ is)
        (record { long = picture.long; seen = picture.seen; after = picture.after })) h.facts.stored)
        (turned_still M k h.parts.status s.views id m.0 w here h.parts.status h.parts.turns (λ u. refl)
        (λ r. sym (ap (turned_in M k r) doing)) h.facts.turned))

  pub takes_job : (j : J) → d.phase ≡ 0 → d.held ≡ false → slice_get k.jobs d.note ≡ Some j
      → Allows (Holds M k) n id m 0 (λ y. y) (took (step n 0 0 0 none) m)
  takes_job j phase free at_ s h deep here fits = (
    does m.0 (record d { held = true }),
    takes d.note (Full j),
    h.facts.slots.resting id m.0 d j here doing free at_
        ∙ ap (λ x. some (some (Full (job_if M k (nat_le 1 x) d.note j)))) phase,
    job_moved s h here true 0 (set s.homes d.note none) (length-set s.homes d.note none)
        (λ i far. set_else s.homes d.note i none (λ z. omega (arith, within s h here)))
        (slots_moved M k s.views id m.0 (does m.0 (record d { held = true })) here h.parts.status s.homes d
        (record d { held = true }) none h.facts.doers doing refl refl
        (omega (arith, h.deep, within s h here)) (λ x free' at'. absurd (cc)) (λ z. refl) h.facts.slots),
    λ e x is at' zero_.
        let same_d : d ≡ e = same_Some _ _ (sym doing ∙ is) in
        let at_k : slice_get k.jobs e.note ≡ Some x = subst (λ z. slice_get z.jobs e.note ≡ Some x) plan at' in
        let same_j : j ≡ x = same_Some _ _ (sym at_ ∙ ap (λ z. slice_get k.jobs z.note) same_d ∙ at_k) in
        ap (λ z. (does m.0 (record z { held = true }), (z.note, Full j) ∷ m.1)) same_d
        ∙ ap (λ z. (does m.0 (record e { held = true }), (e.note, Full z) ∷ m.1)) same_j,
  )

  pub gives_job : (j x : J) → m.1 ≡ (d.note, Full x) ∷ [] → slice_get k.jobs d.note ≡ Some j
      → x ≡ job_if M k (nat_le 1 d.phase) d.note j → Allows (Holds M k) n id m 0 (λ y. y) (gave (step n 0 0 0 none) m)
  gives_job j x carries at_ is s h deep here fits =
      let hs : List (maybe.Option (Berth J)) = set s.homes d.note (some (Full x)) in
      let back : put_back s.homes m.1 ≡ hs = ap (put_back s.homes) carries in (
        does m.0 (record d { held = false }),
        gives,
        tt,
        subst (λ z. Holds M k (record {
          words = slice_set s.words 0 (slice_index s.words 0);
          homes = z;
          views =
              set s.views id (does m.0 (record d { held = false }));
        })) (sym back) (job_moved s h here false 0 hs (length-set s.homes d.note (some (Full x)))
            (λ i far. set_else s.homes d.note i (some (Full x)) (λ z. omega (arith, within s h here)))
            (slots_moved M k s.views id m.0 (does m.0 (record d { held = false })) here h.parts.status s.homes d
            (record d { held = false }) (some (Full x)) h.facts.doers doing refl refl
            (omega (arith, h.deep, within s h here))
            (λ y free' at'. ap (λ z. some (Full z))
            (is ∙ ap (job_if M k (nat_le 1 d.phase) d.note) (same_Some _ _ (sym at_ ∙ at')))) (λ z. absurd (cc))
            h.facts.slots)),
        λ e is'. ap (λ z. (does m.0 (record z { held = false }), rest m.1)) (same_Some _ _ (sym doing ∙ is')),
      )

  module _ (held : d.held ≡ true) where
    pub sets_cell : (a x : ℕ) → d.phase ≡ 0 → writes_at M k d.note a ≡ true
        → Allows (Holds M k) n id m (cell_at a) (λ _. x) (λ _. set_cell (step n (cell_at a) x 0 none) m x)
    sets_cell a x phase writes s h deep here fits =
        let d' : Doing = set_image d a (signed x) in
        let w : View J = does m.0 d' in
        let p' : Words = record h.parts { cells = set h.parts.cells a x } in
        let low : a < length k.cells =
        (used_within M k h.plan d.note a (written_used_at M k h.plan d.note a writes)).0 in (
          w,
          keeps,
          tt,
          holds_after M k s h (slice_set s.words (cell_at a) x) p' s.homes (set s.views id w)
              (word_set M k s h (cell_at a) x p' (set_cell_word k h.parts h.sized a x low))
              (sized_cell k h.parts h.sized a x) refl (λ i far. refl)
              (facts_does M F k h.plan h.parts h.sized s.homes s.views id m.0 here h.facts p' s.homes d d' refl refl
              doing refl live (owned_step k s.views id m.0 w here h.parts.status h.parts.status h.parts.own h.parts.own
              (λ u. omega (arith, ap (ran_on u) doing)) h.facts.owned)
              (slots_still M k s.views id m.0 w here h.parts.status s.homes d d' doing held refl held refl
              h.facts.slots)
              (stored_set M F k h.plan h.parts.status h.parts.watch h.parts.cells s.views id m.0 w here h.facts.gates d
              a x h.facts.doers doing phase refl (omega (arith, low, h.sized.cells)) h.sized.cells (within s h here)
              writes h.facts.stored)
              (turned_still M k h.parts.status s.views id m.0 w here h.parts.status h.parts.turns (λ u. refl)
              (λ r. sym (ap (turned_in M k r) doing)) h.facts.turned)),
          λ b e word is.
              let same_a : a ≡ b = one_cell M k a b word in
              let same_d : d ≡ e = same_Some _ _ (sym doing ∙ is) in
              ap (λ z. (does m.0 (set_image z a (signed x)), m.1)) same_d
              ∙ ap (λ z. (does m.0 (set_image e z (signed x)), m.1)) same_a,
        )

    -- the note's own turn, after it has run
    pub turns_own : d.phase ≡ 0 → d.image ≡ before_at M k (d.note + 1)
        → Allows (Holds M k) n id m (own_at k d.note) (λ _. 1) (λ _. turned (step n (own_at k d.note) 1 0 none) m 1)
    turns_own phase ran s h deep here fits =
        let d' : Doing = next_phase d in
        let w : View J = does m.0 d' in
        let p' : Words = record h.parts { own = set h.parts.own d.note 1 } in
        let near : d.note < length h.parts.own = omega (arith, within s h here, h.sized.own) in
        let once : total (ran_note d.note) s.views ≡ 0 = omega (
          arith,
          total_gap (ran_note d.note) (does_note d.note) s.views id m.0 (λ y. ran_less d.note y.doing) here,
          h.facts.doers d.note,
          ap (λ z. same z 2) (running s h here),
          does_one k h.parts.status s.views h.facts.doers m.0 d doing,
          ap (ran_on d.note) doing,
          none_ran d.note,
        ) in (
          w,
          keeps,
          tt,
          holds_after M k s h (slice_set s.words (own_at k d.note) 1) p' s.homes (set s.views id w)
              (word_set M k s h (own_at k d.note) 1 p' (set_own k h.parts h.sized d.note 1 (within s h here)))
              (sized_own k h.parts h.sized d.note 1) refl (λ i far. refl)
              (facts_does M F k h.plan h.parts h.sized s.homes s.views id m.0 here h.facts p' s.homes d d' refl refl
              doing refl live
              (owned_step k s.views id m.0 w here h.parts.status h.parts.status h.parts.own (set h.parts.own d.note 1)
              (λ u. let v_ran : ran_note u m.0 ≡ one (d.note == u && nat_le 1 d.phase) = ap (ran_on u) doing in ⊎_elim
              (λ y. let e : d.note ≡ u = sym y.0 in
              let now : one (d.note == u && nat_le 1 (d.phase + 1)) ≡ 1 =
              ap (λ b. one (b && nat_le 1 (d.phase + 1))) (eq-eqb d.note u e)
              ∙ ap one (le-leb 1 (d.phase + 1) (omega arith)) in
              let old : at h.parts.own u ≡ 0 =
              ap (at h.parts.own) y.0 ∙ (omega
              (arith, h.facts.owned d.note, once, ap (λ z. same z 3) (running s h here))) in
              omega (arith, y.1, none_ran u))
              (λ y. let n : d.note ≢ u = λ z. y.0 (sym z) in
              let now : one (d.note == u && nat_le 1 (d.phase + 1)) ≡ 0 =
              ap (λ b. one (b && nat_le 1 (d.phase + 1))) (ne_eqb d.note u n) in
              omega (arith, y.1, none_ran u)) (put_cases h.parts.own d.note 1 u near)) h.facts.owned)
              (slots_still M k s.views id m.0 w here h.parts.status s.homes d d' doing held refl held refl
              h.facts.slots)
              (stored_step M F k h.plan h.parts.status h.parts.watch h.parts.cells s.views id m.0 w here h.facts.gates
              h.parts.status (λ u. refl) (λ u z. z)
              (λ e is. subst (Pictured M k h.parts.cells) (same_Some _ _ is)
              (record { long = (picture s h here).long; seen = (picture s h here).seen; after = λ z. ran }))
              h.facts.stored)
              (turned_still M k h.parts.status s.views id m.0 w here h.parts.status h.parts.turns (λ u. refl)
              (λ r. ap (λ z. one (listed (take (z + 1 - 1) (places_written M k d.note)) r)) phase
              ∙ sym (ap (turned_in M k r) doing
              ∙ ap (λ z. one (listed (take (z - 1) (places_written M k d.note)) r)) phase)) h.facts.turned)),
          λ e is. ap (λ z. (does m.0 (next_phase z), m.1)) (same_Some _ _ (sym doing ∙ is)),
        )
      where
        none_ran : (u : ℕ) → one (d.note == u && nat_le 1 d.phase) ≡ 0
        none_ran u = ap (λ z. one (d.note == u && nat_le 1 z)) phase ∙ and_none (d.note == u)
          where
            and_none : (b : Bool) → one (b && nat_le 1 0) ≡ 0
            and_none true = refl
            and_none false = refl

    -- the turn on the i-th resource that the note writes
    pub turns_on : (i r x : ℕ) → d.phase ≡ i + 1 → i < length (places_written M k d.note)
        → at (places_written M k d.note) i ≡ r → x ≡ writers_before M k d.note r + 1
        → Allows (Holds M k) n id m (turn_at k r) (λ _. x) (λ _. turned (step n (turn_at k r) x 0 none) m x)
    turns_on i r x phase low is next s h deep here fits =
        let d' : Doing = next_phase d in
        let w : View J = does m.0 d' in
        let p' : Words = record h.parts { turns = set h.parts.turns r x } in
        let W : List ℕ = places_written M k d.note in
        let writes : Contains W r = (i, low, get_default W i r low ∙ is) in
        let uses : Contains (places_used M k d.note) r = written_used M k h.plan d.note r writes in
        let small : r < area_count k = used_place M k h.plan d.note r uses in
        let up = written_rises M k h.plan d.note in
        let less : d.phase - 1 ≡ i = omega arith in
        let unmade : turned_on M k r m.0 ≡ 0 =
        ap (turned_in M k r) doing ∙ ap (λ z. one (listed (take z W) r)) less
        ∙ ap one (ap (listed (take i W)) (sym is) ∙ listed_fresh W up i low) in
        let word : at h.parts.turns r ≡ writers_before M k d.note r + turned_on M k r m.0 =
        looks_turn M k h.parts.status s.views id m.0 m.0 here h.plan h.parts.watch h.facts.gates h.facts.doers d doing
        h.parts.turns r (omega (arith, within s h here)) small (listed_of (places_used M k d.note) r uses)
        h.facts.turned in (
          w,
          keeps,
          tt,
          holds_after M k s h (slice_set s.words (turn_at k r) x) p' s.homes (set s.views id w)
              (word_set M k s h (turn_at k r) x p' (set_turn k h.parts h.sized r x small))
              (sized_turn k h.parts h.sized r x) refl (λ i far. refl)
              (facts_does M F k h.plan h.parts h.sized s.homes s.views id m.0 here h.facts p' s.homes d d' refl refl
              doing refl live
              (owned_step k s.views id m.0 w here h.parts.status h.parts.status h.parts.own h.parts.own (λ u.
              let old : ran_note u m.0 ≡ one (d.note == u && true) =
              ap (ran_on u) doing ∙ ap (λ b. one (d.note == u && b)) (le-leb 1 d.phase (omega arith)) in
              let now : one (d.note == u && nat_le 1 (d.phase + 1)) ≡ one (d.note == u && true) =
              ap (λ b. one (d.note == u && b)) (le-leb 1 (d.phase + 1) (omega arith)) in
              omega arith) h.facts.owned)
              (slots_still M k s.views id m.0 w here h.parts.status s.homes d d' doing held refl held refl
              h.facts.slots)
              (stored_step M F k h.plan h.parts.status h.parts.watch h.parts.cells s.views id m.0 w here h.facts.gates
              h.parts.status (λ u. refl) (λ u z. z)
              (λ e is'. subst (Pictured M k h.parts.cells) (same_Some _ _ is') (record {
                long = (picture s h here).long;
                seen = (picture s h here).seen;
                after =
                    λ z. (picture s h here).after (omega arith);
              })) h.facts.stored)
              (turned_more M k h.parts.status s.views id m.0 w here h.parts.turns d i r x doing refl phase up low is
              (omega (arith, small, h.sized.turns)) (omega arith) h.facts.turned)),
          λ e is'. ap (λ z. (does m.0 (next_phase z), m.1)) (same_Some _ _ (sym doing ∙ is')),
        )
      where
        get_default : (xs : List ℕ) (i r : ℕ) → i < length xs → get_or xs i r ≡ at xs i
        get_default [] i r l = absurd (omega arith)
        get_default (y ∷ ys) zero r l = refl
        get_default (y ∷ ys) (suc i) r l = get_default ys i r (omega arith)
