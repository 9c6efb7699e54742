-- A seat is split off or joined: these steps preserve the facts.
use Rattle.std.proofs.lemmas.{Grind.common_steps, Bool.cases_Bool, Bool.cases_eq}
use Rattle.std.proofs.Common.{◌≡◌, ◌≢◌, ℕ, ◌+◌, ◌<◌, ◌≤◌, ◌⊎◌, inl, inr, ⊎_elim, List, [], ◌∷◌, ◌++◌, set, true, false}
use Rattle.std.proofs.Common.{not, Option, Some, None, refl, sym, ap, ◌∙◌, subst, arith, ◌==◌, ◌&&◌, slice_get}
use mathlib.Core.Option.{some}
use lib.ListN.{get_elem?}
use Rattle.atomic_table.specs.Table.{Splits, Joins}
use Rattle.cs_cells.specs.Meaning.{Meaning}
use Rattle.cs_board.specs.Counts.{one, same, total, times, without}
use Rattle.cs_board.specs.Facts.{doing_on, ran_on, spot_on, spot_by, spot_at, turned_in, owed, has_done, is_first}
use Rattle.cs_board.specs.Facts.{numbered, names, Found, IsSane, Waits, Seats}
use Rattle.cs_board.specs.{Rule.Facts, Rule.Holds, Words.Words, declared.view.Berth.Berth, declared.view.Doing.Doing}
use Rattle.cs_board.specs.{declared.view.Plan.Plan, declared.view.Spot.Spot, declared.view.View.View}
use Rattle.cs_board.specs.Views.{kept_view, given_view, joined, spent_view}
use Rattle.cs_board.proofs.Lists.{same_yes, same_no, at_set, at_snoc, set_else, total-set, total-snoc, total-append}
use Rattle.cs_board.proofs.Lists.{total_le, total_two, total_only, times-without, times-without_same, times-without_le}
use mathlib.Core.Option as maybe

-- a weight of a view, from what it does, closes and moves
abbrev Weight : Type 0
Weight = Option Doing → Option Spot → Option Spot → ℕ

found_none : {J : Type 0} (x : View J) (t : ℕ) → x.found ≡ [] → ¬ (Found x t)
found_none x t e q = let none : List (ℕ × ℕ) = [] in let z : slice_get none q.0 ≡ Some (t, q.1) =
    subst (λ l. slice_get l q.0 ≡ Some (t, q.1)) e q.2 in cc

module _ {J : Type 0} where
  abbrev weigh : Weight → View J → ℕ
  weigh g x = g x.doing x.closing x.moving

  -- the view is one of the earlier views, or belongs to a seat that has done nothing
  abbrev Old : List (View J) → View J → Type 0
  Old vs x = ((x.doing ≡ None) × (x.found ≡ []))
      ⊎ ((i : ℕ) × (y : View J) × (get_elem? vs i ≡ some y) × (x.doing ≡ y.doing) × (x.found ≡ y.found))

  module _ (M : Meaning J) (k : Plan J) (p : Words) (hs : List (maybe.Option (Berth J))) (vs vs' : List (View J)) where
    -- views that weigh the same as those before
    facts_alike : ((g : Weight) → g None None None ≡ 0 → total (weigh g) vs' ≡ total (weigh g) vs)
        → ((t : ℕ) → total (owed t) vs ≤ total (owed t) vs')
        → ((t : ℕ) → total (has_done t) vs' ≡ total (has_done t) vs)
        → ((i : ℕ) (x : View J) → get_elem? vs' i ≡ some x → Old vs x)
        → ((i : ℕ) (x : View J) → get_elem? vs' i ≡ some x → IsSane k x) → Seats vs' → Facts M k p hs vs
        → Facts M k p hs vs'
    facts_alike duty owes mine old sane seats f =
        let waits : (t : ℕ) → Waits k p.watch vs t → Waits k p.watch vs' t = λ t h. record {
          edge = h.edge;
          before = h.before;
          after = h.after;
          who = ⊎_elim
              (λ a. inl (a.0, a.1, a.2, duty (λ d c m. spot_on t m) refl ∙ a.3))
              (λ b. inr (b.0, duty (λ d c m. spot_on t m) refl ∙ b.1, duty (λ d c m. spot_at t h.edge m) refl ∙ b.2))
              h.who;
          some_edge = h.some_edge;
        } in
        record {
          gates = f.gates;
          sane = sane;
          doers = λ t. duty (λ d c m. doing_on t d) refl ∙ f.doers t;
          watches = record {
            closing = λ q. omega (arith, duty (λ d c m. spot_on q c) refl, f.watches.closing q);
            left = λ e q t edge z. ⊎_elim (λ c. inl c) (λ c. inr (omega (arith, c, duty (λ d y m. spot_by q e y) refl)))
                (f.watches.left e q t edge z);
            waits = λ t low z. waits t (f.watches.waits t low z);
            calm = λ t z. duty (λ d c m. spot_on t m) refl ∙ f.watches.calm t z;
            moving_in = λ t z. duty (λ d c m. spot_on t m) refl ∙ f.watches.moving_in t z;
          };
          tallied = record {
            owing = λ t z. omega (arith, owes t, f.tallied.owing t z);
            finding = λ i x t e q low root. ⊎_elim
                (λ none. absurd (found_none x t none.1 q))
                (λ y. f.tallied.finding y.0 y.1 t y.2 (subst (λ l. (j : ℕ) × (n : ℕ)
                × (slice_get l j ≡ Some (t, n))) y.4 q) low root) (old i x e);
            having = λ t. mine t ∙ f.tallied.having t;
          };
          seats = seats;
          owned = λ t. omega (arith, f.owned t, duty (λ d c m. ran_on t d) refl);
          slots = record {
            home = f.slots.home;
            resting = λ i x d j e is free at_. ⊎_elim
                (λ none. absurd (let z : Some d ≡ None = sym is ∙ none.0 in cc))
                (λ y. f.slots.resting y.0 y.1 d j y.2 (sym y.3 ∙ is) free at_) (old i x e);
            away = λ i x d e is held. ⊎_elim
                (λ none. absurd (let z : Some d ≡ None = sym is ∙ none.0 in cc))
                (λ y. f.slots.away y.0 y.1 d y.2 (sym y.3 ∙ is) held) (old i x e);
          };
          stored = record {
            values = f.stored.values;
            images = λ i x d e is. ⊎_elim
                (λ none. absurd (let z : Some d ≡ None = sym is ∙ none.0 in cc))
                (λ y. f.stored.images y.0 y.1 d y.2 (sym y.3 ∙ is)) (old i x e);
          };
          turned = λ r low. omega (arith, f.turned r low, duty (λ d c m. turned_in M k r d) refl);
        }

  -- the first view stays sane, whatever it knows about other seats and about the notes that are finished
  first_sane : (k : Plan J) (v : View J) (mine out : List ℕ) (made : ℕ) → v.first ≡ true → v.spent ≡ false → IsSane k v
      → IsSane k (record v { mine = mine; out = out; made = made })
  first_sane k v mine out made first live s = grind (arith, common_steps)

  -- only the first view lists other seats as split off
  module _ (k : Plan J) (vs : List (View J)) (id : ℕ) (v : View J) (here : get_elem? vs id ≡ some v)
      (first : v.first ≡ true)
      (sane : (i : ℕ) (x : View J) → get_elem? vs i ≡ some x → IsSane k x) (seats : Seats vs) where
    pub follows : (j : ℕ) (y : View J) → j ≢ id → get_elem? vs j ≡ some y → y.first ≡ false
    follows j y n e = grind (arith, common_steps, cases_Bool, total_two)

    pub names_first : (x : ℕ) → total (names x) vs ≡ names x v
    names_first x = total_only (names x) vs id v here
        (λ j y n e. ap (times x) ((sane j y e).follower (follows j y n e)))

  module _ (M : Meaning J) (k : Plan J) where
    pub splits : (id : ℕ) (v : View J) → v.first ≡ true → v.spent ≡ false → v.plan ≡ k
        → Splits (Holds M k) id v (kept_view v) (given_view v)
    splits id v first live plan s h here =
        let old : (i : ℕ) (x : View J) → get_elem? vs' i ≡ some x
        → Old s.views x = each (Old s.views) (inr (id, v, here, refl, refl)) (inl (refl, refl)) (λ i x e. inr
        (i, x, e, refl, refl)) in
        let sane : (i : ℕ) (x : View J) → get_elem? vs' i ≡ some x
        → IsSane k x = let o = h.facts.sane id v here in each (IsSane k)
        (first_sane k v v.mine (v.made ∷ v.out) (v.made + 1) first live o) (record {
          plan = λ z. plan;
          one_duty = inl refl;
          owes_in = λ t z. absurd (omega arith);
          follower = λ z. refl;
          leader = λ z. absurd (cc);
          over = λ z. absurd (cc);
          playing = refl;
        }) h.facts.sane in
        record {
          plan = h.plan;
          parts = h.parts;
          words = h.words;
          sized = h.sized;
          deep = h.deep;
          vacant = h.vacant;
          facts = facts_alike M k h.parts s.homes s.views vs'
              (λ g none. omega (arith, sums (weigh g), none))
              (λ t. omega (arith, sums (owed t)))
              (λ t. omega (arith, sums (has_done t))) old sane seats h.facts;
        }
      where
        w : View J
        w = kept_view v

        given : View J
        given = given_view v

        vs' : List (View J)
        vs' = set s.views id w ++ given ∷ []

        sums : (g : View J → ℕ) → total g vs' + g v ≡ total g s.views + g w + g given
        sums g = omega (arith, total-snoc g (set s.views id w) given, total-set g s.views id v w here)

        each : (P : View J → Type 0) → P w → P given → ((i : ℕ) (x : View J) → get_elem? s.views i ≡ some x → P x)
            → (i : ℕ) (x : View J) → get_elem? vs' i ≡ some x → P x
        each P pw pg rest i x e = ⊎_elim
            (λ a. ⊎_elim (λ b. subst P b.1 pw) (λ b. rest i x b.1) (at_set s.views id i w x a.0))
            (λ a. subst P a.0 pg) (at_snoc (set s.views id w) given x i e)

        new_name : names v.made v ≡ 0
        new_name = ⊎_elim (λ z. z) (λ n. absurd (omega (arith, h.facts.seats.fresh id v v.made here (omega arith))))
            (cases_eq (names v.made v) 0)

        seats : Seats vs'
        seats =
            let fresh : (x i : ℕ) (y : View J) → get_elem? vs' i ≡ some y → 0 < names x y
            → x < y.made = λ x. each (λ y. 0 < names x y → x < y.made)
            (λ q. ⊎_elim
            (λ (e : v.made ≡ x). omega arith)
            (λ (n : v.made ≢ x). let r : x < v.made =
            h.facts.seats.fresh id v x here (omega (arith, q, same_no v.made x n)) in omega arith) (cases_eq v.made x))
            (λ q. absurd (omega arith))
            (λ i y e q. h.facts.seats.fresh i y x e q) in
            record {
              leading = omega (arith, sums is_first, h.facts.seats.leading);
              numbers = λ x. omega (arith, sums (numbered x), sums (names x), h.facts.seats.numbers x);
              once = λ x. ⊎_elim
                  (λ (e : v.made ≡ x). let all : total (names x) s.views ≡ 0 =
                  ap (λ z. total (names z) s.views) (sym e)
                  ∙ names_first k s.views id v here first h.facts.sane h.facts.seats v.made ∙ new_name in
                  omega (arith, sums (names x), same_yes v.made x e))
                  (λ (n : v.made ≢ x). omega (arith, sums (names x), h.facts.seats.once x, same_no v.made x n))
                  (cases_eq v.made x);
              fresh = λ i y x e q. fresh x i y e q;
            }

    pub joins : (id : ℕ) (v : View J) (other : ℕ) (u : View J) → v.first ≡ true → v.spent ≡ false → u.spent ≡ false
        → u.doing ≡ None → u.closing ≡ None → u.moving ≡ None → u.owes ≡ []
        → Joins (Holds M k) id v other u (joined v u) spent_view
    joins id v other u first live live' idle no_closing no_moving no_owes s h here apart there =
        let old : (i : ℕ) (x : View J) → get_elem? vs' i ≡ some x
        → Old s.views x = each (Old s.views) (inr (id, v, here, refl, refl)) (inl (refl, refl)) (λ i x e. inr
        (i, x, e, refl, refl)) in
        let sane : (i : ℕ) (x : View J) → get_elem? vs' i ≡ some x
        → IsSane k x = let o = h.facts.sane id v here in each (IsSane k)
        (first_sane k v (v.mine ++ u.mine) (without u.number v.out) v.made first live o) (record {
          plan = λ z. absurd (cc);
          one_duty = inl refl;
          owes_in = λ t z. absurd (omega arith);
          follower = λ z. refl;
          leader = λ z. absurd (cc);
          over = λ z. refl;
          playing = refl;
        }) h.facts.sane in
        record {
          plan = h.plan;
          parts = h.parts;
          words = h.words;
          sized = h.sized;
          deep = h.deep;
          vacant = h.vacant;
          facts = facts_alike M k h.parts s.homes s.views vs'
              (λ g none. omega (
                arith,
                sums (weigh g),
                none,
                ap (λ z. g z u.closing u.moving) idle,
                ap
                    (λ z. g None z u.moving) no_closing,
                ap (λ z. g None None z) no_moving,
              ))
              (λ t. omega (arith, sums (owed t), ap (times t) no_owes))
              (λ t. let both : has_done t w ≡ has_done t v + has_done t u =
              total-append (λ y. same y t) v.mine u.mine in omega (arith, sums (has_done t))) old sane seats h.facts;
        }
      where
        w : View J
        w = joined v u

        vs' : List (View J)
        vs' = set (set s.views id w) other spent_view

        at_other : get_elem? s.views other ≡ some u
        at_other = sym (set_else s.views id other w apart) ∙ there

        sums : (g : View J → ℕ) → total g vs' + g u + g v ≡ total g s.views + g w + g spent_view
        sums g = omega (arith, total-set g (set s.views id w) other u spent_view there, total-set g s.views id v w here)

        each : (P : View J → Type 0) → P w → P spent_view → ((i : ℕ) (x : View J) → get_elem? s.views i ≡ some x → P x)
            → (i : ℕ) (x : View J) → get_elem? vs' i ≡ some x → P x
        each P pw ps rest i x e = ⊎_elim
            (λ a. subst P a.1 ps)
            (λ a. ⊎_elim (λ b. subst P b.1 pw) (λ b. rest i x b.1) (at_set s.views id i w x a.1))
            (at_set (set s.views id w) other i spent_view x e)

        followed : u.first ≡ false
        followed = follows k s.views id v here first h.facts.sane h.facts.seats other u apart at_other

        u_number : (x : ℕ) → numbered x u ≡ same u.number x
        u_number x = ap (λ b. one (not b && (not u.spent && u.number == x))) followed
            ∙ ap (λ b. one (not b && u.number == x)) live'

        u_names : (x : ℕ) → names x u ≡ 0
        u_names x = ap (times x) ((h.facts.sane other u at_other).follower followed)

        all_names : (x : ℕ) → total (names x) s.views ≡ names x v
        all_names x = names_first k s.views id v here first h.facts.sane h.facts.seats x

        seats : Seats vs'
        seats =
            let fresh : (x i : ℕ) (y : View J) → get_elem? vs' i ≡ some y → 0 < names x y
            → x < y.made = λ x. each (λ y. 0 < names x y → x < y.made)
            (λ q. h.facts.seats.fresh id v x here (omega (arith, q, times-without_le x u.number v.out)))
            (λ q. absurd (omega arith))
            (λ i y e q. h.facts.seats.fresh i y x e q) in
            record {
              leading = omega (arith, sums is_first, h.facts.seats.leading, ap one followed);
              numbers = λ x. ⊎_elim
                  (λ (e : u.number ≡ x).
                  let gone : names x w ≡ 0 = ap (λ z. times x (without z v.out)) e ∙ times-without_same x v.out in
                  let it : numbered x u ≡ 1 = u_number x ∙ same_yes u.number x e in
                  omega (
                    arith,
                    sums (numbered x),
                    sums (names x),
                    h.facts.seats.numbers x,
                    h.facts.seats.once x,
                    u_names x,
                    all_names x,
                    total_le (numbered x) s.views other u at_other,
                  ))
                  (λ (n : u.number ≢ x).
                  let kept : names x w ≡ names x v = times-without x u.number v.out (λ z. n (sym z)) in
                  let it : numbered x u ≡ 0 = u_number x ∙ same_no u.number x n in
                  omega (arith, sums (numbered x), sums (names x), h.facts.seats.numbers x, u_names x))
                  (cases_eq u.number x);
              once = λ x. omega (
                arith,
                sums (names x),
                h.facts.seats.once x,
                u_names x,
                times-without_le x u.number v.out,
                total_le (names x) s.views id v here,
              );
              fresh = λ i y x e q. fresh x i y e q;
            }
