-- Notes that share a resource: what the plan and the words say about them.
use Rattle.std.proofs.lemmas.{Grind.common_steps, Option.slice_get_within, Option.get_or_from_slice_get}
use Rattle.std.proofs.Common.{◌≡◌, ◌≢◌, ℕ, zero, suc, ◌<◌, inl, inr, ⊎_elim, List, [], ◌∷◌, map, length, get_or, true}
use Rattle.std.proofs.Common.{Option, Some, None, refl, sym, ap, subst, arith, slice_get, eq-eqb, eqb-true, ◌==◌}
use Rattle.std.proofs.lemmas.Bool.{cases_order, or_cases, or_left, or_right}
use Rattle.std.specs.{List.Contains, List.Sorted.IsStrictlyIncreasing}
use Rattle.cs_cells.specs.{Areas.IsLaid, Cells.covers, Cells.in_area, Meaning.Meaning, declared.footprint.Area.Area}
use Rattle.cs_cells.proofs.Laid.{covered_place, one_place, covered_below}
use Rattle.cs_graph.specs.{Conflict.Conflict, Conflict.foot, Graph.Reaches, Graph.step, Graph.onward}
use Rattle.cs_board.specs.{Counts.listed, Facts.Gates, Words.at, declared.view.Plan.Plan}
use Rattle.cs_board.specs.Plans.{IsPlan, feet, uses_of, writes_of, uses_at, writes_at, places_used, places_written}

pub contains_at : (xs : List ℕ) (i x : ℕ) → slice_get xs i ≡ Some x → Contains xs x
contains_at xs i x e = (i, slice_get_within xs i x e, get_or_from_slice_get xs i x x e)

pub listed_contains : (xs : List ℕ) (x : ℕ) → listed xs x ≡ true → Contains xs x
listed_contains [] x h = absurd (cc)
listed_contains (y ∷ ys) x h = ⊎_elim
    (λ e. (0, omega arith, eqb-true y x e))
    (λ r. let c = listed_contains ys x r in (suc c.0, omega (arith, c.1), c.2)) (or_cases (y == x) (listed ys x) h)

pub contains_listed : (xs : List ℕ) (i x : ℕ) → i < length xs → get_or xs i x ≡ x → listed xs x ≡ true
contains_listed [] i x l e = absurd (omega arith)
contains_listed (y ∷ ys) zero x l e = or_left (y == x) (listed ys x) (eq-eqb y x e)
contains_listed (y ∷ ys) (suc i) x l e = or_right (y == x) (listed ys x) (contains_listed ys i x (omega arith) e)

pub listed_of : (xs : List ℕ) (x : ℕ) → Contains xs x → listed xs x ≡ true
listed_of xs x c = contains_listed xs c.0 x c.1 c.2

-- an address that two lists of resources cover lies in a resource of both
shared : (areas : List Area) (P Q : List ℕ) (a : ℕ) → IsLaid areas → covers areas P a ≡ true → covers areas Q a ≡ true
    → (r : ℕ) × Contains P r × Contains Q r
shared areas P Q a laid p q = grind (arith, common_steps, contains_at, covered_place, one_place)

module _ {J : Type 0} (M : Meaning J) where
  foot_at : (js : List J) (p : ℕ) (j : J) → slice_get js p ≡ Some j
      → (p < length js) × (foot (map M.foot js) p ≡ M.foot j)
  foot_at [] p j e = absurd (cc)
  foot_at (x ∷ js) zero j e = let same : x ≡ j = cc in (omega arith, ap M.foot same)
  foot_at (x ∷ js) (suc p) j e = let r = foot_at js p j e in (omega (arith, r.0), r.1)

  writes_from : (o : Option J) (r : ℕ) → Contains (writes_of M o) r
      → (j : J) × (o ≡ Some j) × Contains (M.foot j).writes r
  writes_from None r c = absurd (omega (arith, c.1))
  writes_from (Some j) r c = (j, refl, c)

  uses_from : (o : Option J) (r : ℕ) → Contains (uses_of M o) r → (j : J) × (o ≡ Some j) × Contains (M.foot j).uses r
  uses_from None r c = absurd (omega (arith, c.1))
  uses_from (Some j) r c = (j, refl, c)

  module _ (k : Plan J) (plan : IsPlan M k) where
    writes_foot : (p r : ℕ) → Contains (places_written M k p) r
        → (p < length k.jobs) × Contains (foot (feet M k) p).writes r
    writes_foot p r c =
        let w = writes_from (slice_get k.jobs p) r c in
        let f = foot_at k.jobs p w.0 w.1 in
        (f.0, subst (λ x. Contains x.writes r) (sym f.1) w.2)

    uses_foot : (p r : ℕ) → Contains (places_used M k p) r → (p < length k.jobs) × Contains (foot (feet M k) p).uses r
    uses_foot p r c =
        let w = uses_from (slice_get k.jobs p) r c in
        let f = foot_at k.jobs p w.0 w.1 in
        (f.0, subst (λ x. Contains x.uses r) (sym f.1) w.2)

    length-feet : (js : List J) → length (map M.foot js) ≡ length js
    length-feet [] = refl
    length-feet (x ∷ js) = ap suc (length-feet js)

    -- a writer and a user of one resource conflict
    pub writer_user : (p t r : ℕ) → p < t → Contains (places_written M k p) r → Contains (places_used M k t) r
        → Conflict (feet M k) p t
    writer_user p t r low w u =
        let a = writes_foot p r w in let b = uses_foot t r u in
        record { earlier = low; within = omega (arith, b.0, length-feet k.jobs); clash = (r, inl (a.1, inl b.1)) }

    pub user_writer : (p t r : ℕ) → p < t → Contains (places_used M k p) r → Contains (places_written M k t) r
        → Conflict (feet M k) p t
    user_writer p t r low u w =
        let a = uses_foot p r u in let b = writes_foot t r w in
        record { earlier = low; within = omega (arith, b.0, length-feet k.jobs); clash = (r, inr (inl a.1, b.1)) }

    pub written_used : (t r : ℕ) → Contains (places_written M k t) r → Contains (places_used M k t) r
    written_used t r c =
        let w = writes_from (slice_get k.jobs t) r c in
        subst (λ o. Contains (uses_of M o) r) (sym w.1) ((plan.footprints t w.0 w.1).written r w.2)

    -- a footprint's resources are ascending, and the layout has them
    pub written_rises : (t : ℕ) → IsStrictlyIncreasing (places_written M k t)
    written_rises t = go (slice_get k.jobs t) refl
      where
        go : (o : Option J) → slice_get k.jobs t ≡ o → IsStrictlyIncreasing (writes_of M o)
        go None e = λ i l. absurd (omega arith)
        go (Some j) e = (plan.footprints t j e).writes

    pub used_place : (t r : ℕ) → Contains (places_used M k t) r → r < length k.areas
    used_place t r c = let w = uses_from (slice_get k.jobs t) r c in (plan.footprints t w.0 w.1).within r w.2

    pub written_within : (t r : ℕ) → Contains (places_written M k t) r → t < k.notes
    written_within t r c = omega (arith, (writes_foot t r c).0, plan.jobs)

    -- a cell that may be written counts as used
    covers_more : (areas : List Area) (P Q : List ℕ) (a : ℕ) → ((r : ℕ) → Contains P r → listed Q r ≡ true)
        → covers areas P a ≡ true → covers areas Q a ≡ true
    covers_more areas P Q a sub h =
        let x = covered_place areas P a h in
        let c = listed_contains Q x.1 (sub x.1 (contains_at P x.0 x.1 x.2)) in
        covers_in areas Q c.0 x.1 a c.1 c.2 x.3
      where
        covers_in : (areas : List Area) (Q : List ℕ) (i r a : ℕ) → i < length Q → get_or Q i r ≡ r
            → in_area (slice_get areas r) a ≡ true → covers areas Q a ≡ true
        covers_in areas [] i r a l e h = absurd (omega arith)
        covers_in areas (y ∷ ys) zero r a l e h =
            or_left (in_area (slice_get areas y) a) (covers areas ys a)
            (subst (λ z. in_area (slice_get areas z) a ≡ true) (sym e) h)
        covers_in areas (y ∷ ys) (suc i) r a l e h =
            or_right (in_area (slice_get areas y) a) (covers areas ys a) (covers_in areas ys i r a (omega arith) e h)

    used_covers : (t a : ℕ) → uses_at M k t a ≡ true → covers k.areas (places_used M k t) a ≡ true
    used_covers t a h = ⊎_elim
        (λ u. u)
        (λ w. covers_more k.areas (places_written M k t) (places_used M k t) a
        (λ r c. listed_of (places_used M k t) r (written_used t r c)) w)
        (or_cases (covers k.areas (places_used M k t) a) (covers k.areas (places_written M k t) a) h)

    -- a writer and a user of one cell conflict
    pub writer_user_at : (p t a : ℕ) → p < t → writes_at M k p a ≡ true → uses_at M k t a ≡ true
        → Conflict (feet M k) p t
    writer_user_at p t a low w u = let s =
        shared k.areas (places_written M k p) (places_used M k t) a plan.laid w (used_covers t a u) in writer_user p t
        s.0 low s.1 s.2

    pub user_writer_at : (p t a : ℕ) → p < t → uses_at M k p a ≡ true → writes_at M k t a ≡ true
        → Conflict (feet M k) p t
    user_writer_at p t a low u w = let s =
        shared k.areas (places_used M k p) (places_written M k t) a plan.laid (used_covers p a u) w in user_writer p t
        s.0 low s.1 s.2

    pub written_used_at : (t a : ℕ) → writes_at M k t a ≡ true → uses_at M k t a ≡ true
    written_used_at t a h = or_right (covers k.areas (places_used M k t) a) (covers k.areas (places_written M k t) a) h

    -- only cells of the layout are used
    pub used_within : (t a : ℕ) → uses_at M k t a ≡ true → (a < length k.cells) × (t < k.notes)
    used_within t a u =
        let h : covers k.areas (places_used M k t) a ≡ true = used_covers t a u in
        let x = covered_place k.areas (places_used M k t) a h in
        let f = uses_foot t x.1 (contains_at (places_used M k t) x.0 x.1 x.2) in (
          omega (arith, covered_below k.areas (places_used M k t) a plan.laid h, plan.cells),
          omega (arith, f.0, plan.jobs),
        )

    -- all earlier conflicting notes of a note that isn't Waiting are Done
    module _ (st wt : List ℕ) (g : Gates k st wt) where
      reached : (p t : ℕ) → Reaches k.edges p t → at st t ≢ 0 → at st p ≡ 3
      reached p t (step e _ _ edge) n = g.done e p t edge (g.closed e p t edge n)
      reached p t (onward e _ q _ r edge) n =
          let d : at st q ≡ 3 = g.done e q t edge (g.closed e q t edge n) in
          reached p q r (λ z. omega arith)

      pub past : (p t : ℕ) → Conflict (feet M k) p t → at st t ≢ 0 → at st p ≡ 3
      past p t c n = reached p t (plan.fit.all p t c) n

      -- of two notes, one writes a resource or a cell that the other uses: if both have begun and aren't
      -- Done, they are the same note
      both : (p t : ℕ) → (p < t → Conflict (feet M k) p t) → (t < p → Conflict (feet M k) t p) → at st p ≢ 0
          → at st p ≢ 3 → at st t ≢ 0 → at st t ≢ 3 → p ≡ t
      both p t f b p0 p3 t0 t3 = grind (arith, common_steps, cases_order, past)

      pub begun_at : (p t a : ℕ) → writes_at M k p a ≡ true → uses_at M k t a ≡ true → at st p ≢ 0 → at st p ≢ 3
          → at st t ≢ 0 → at st t ≢ 3 → p ≡ t
      begun_at p t a w u = both p t (λ l. writer_user_at p t a l w u) (λ l. user_writer_at t p a l u w)

      pub alone_at : (p t a : ℕ) → writes_at M k p a ≡ true → uses_at M k t a ≡ true → at st p ≡ 2 → at st t ≡ 2 → p ≡ t
      alone_at p t a w u e f = both p t (λ l. writer_user_at p t a l w u) (λ l. user_writer_at t p a l u w)
          (λ z. omega arith) (λ z. omega arith) (λ z. omega arith) (λ z. omega arith)

      pub alone_on : (p t r : ℕ) → Contains (places_written M k p) r → Contains (places_used M k t) r → at st p ≡ 2
          → at st t ≡ 2 → p ≡ t
      alone_on p t r w u e f = both p t (λ l. writer_user p t r l w u) (λ l. user_writer t p r l u w)
          (λ z. omega arith) (λ z. omega arith) (λ z. omega arith) (λ z. omega arith)
