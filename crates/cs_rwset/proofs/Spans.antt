-- Marks of neighbouring areas.
use Rattle.std.proofs.Common.{◌≡◌, ◌<◌, ◌≤◌, ◌+◌, ◌++◌, ℕ, zero, suc, List, [], ◌∷◌, length, take, drop, replicate, ◌-◌}
use Rattle.std.proofs.Common.{slice_get, Some, Bool, true, false, not, ◌||◌, refl, sym, ◌∙◌, ap, subst, arith, ⊎_elim}
use Rattle.std.proofs.Common.{IfSome}
use Rattle.std.specs.{Bool.beq, List.Contains}
use Rattle.std.proofs.lemmas.Bool.{cases_lt, false_from_ne_true, true≢false}
use Rattle.std.proofs.lemmas.Option.{slice_get_cases, slice_get_within}
use Rattle.cs_base.specs.{declared.resource.Res.Res, declared.spaces.Spaces.Spaces}
use Rattle.cs_cells.specs.{Areas.HasPlace, Areas.IsLaid, declared.footprint.Area.Area}
use Rattle.cs_ir.specs.Resources.{places_of, places_within, reaches, zak_place}
use Rattle.cs_ir.specs.{declared.op.Reach.Reach, Touched.covers}
use Rattle.cs_rwset.specs.Footprints.{is_among, stock_of}
use Rattle.cs_rwset.specs.{declared.runs.Run.Run, declared.runs.Runs.Runs, inner.Marks.marked_by}
use Rattle.cs_rwset.specs.inner.Runs.{AreInOrder, AreRuns, IsRun, begin_of}
use Rattle.cs_rwset.proofs.{Covering.covers_named, Covering.named_place, Covering.place_named, Marking.or_here}
use Rattle.cs_rwset.proofs.{Marking.or_not, Marking.same_marks, Placed.among_contains, Placed.contains_among}
use Rattle.cs_words.specs.declared.catalogue.Space.{Space}
use Rattle.cs_ir.specs.declared.touches.Touch.TheVariants as touch
use Rattle.cs_words.specs.declared.catalogue.Space.TheVariants as space

-- marks of which the ones from one place up to another are replaced by n set marks
abbrev pub set_from : ℕ → ℕ → ℕ → List Bool → List Bool
set_from from n to marks = take from marks ++ (replicate n true ++ drop to marks)

module _ (P Q : Res → Bool) where
  pub run_marks : (areas : List Area) (from n to : ℕ) → n + from ≡ to → to ≤ length areas
      → ((k : ℕ) (a : Area) → slice_get areas k ≡ Some a → from ≤ k → k < to → Q a.res ≡ true)
      → ((k : ℕ) (a : Area) → slice_get areas k ≡ Some a → k < from → Q a.res ≡ false)
      → ((k : ℕ) (a : Area) → slice_get areas k ≡ Some a → to ≤ k → Q a.res ≡ false)
      → set_from from n to (marked_by P areas) ≡ marked_by (λ r. P r || Q r) areas
  run_marks areas zero zero zero e l inside before behind =
      same_marks P (λ r. P r || Q r) areas (λ k a g. or_not (P a.res) (Q a.res) (behind k a g (omega arith)))
  run_marks areas zero zero (suc to) e l inside before behind = absurd (omega (arith, e))
  run_marks areas zero (suc n) zero e l inside before behind = absurd (omega (arith, e))
  run_marks areas (suc from) n zero e l inside before behind = absurd (omega (arith, e))
  run_marks [] zero (suc n) (suc to) e l inside before behind = absurd (omega (arith, l))
  run_marks [] (suc from) n (suc to) e l inside before behind = absurd (omega (arith, l))
  run_marks (a ∷ areas) zero (suc n) (suc to) e l inside before behind =
      λ i. or_here (P a.res) (Q a.res) (inside 0 a refl (omega arith) (omega arith)) i
      ∷ run_marks areas zero n to (omega (arith, e)) (omega (arith, l))
      (λ k b g m h. inside (suc k) b g (omega arith) (omega (arith, h)))
      (λ k b g h. absurd (omega (arith, h))) (λ k b g h. behind (suc k) b g (omega (arith, h))) i
  run_marks (a ∷ areas) (suc from) n (suc to) e l inside before behind =
      λ i. or_not (P a.res) (Q a.res) (before 0 a refl (omega arith)) i
      ∷ run_marks areas from n to (omega (arith, e)) (omega (arith, l))
      (λ k b g m h. inside (suc k) b g (omega (arith, m)) (omega (arith, h)))
      (λ k b g h. before (suc k) b g (omega (arith, h))) (λ k b g h. behind (suc k) b g (omega (arith, h))) i

pub marked_run : (P Q : Res → Bool) (areas : List Area) (run : Run) → IsRun areas Q run
    → set_from run.from (run.to - run.from) run.to (marked_by P areas) ≡ marked_by (λ r. P r || Q r) areas
marked_run P Q areas run is =
    run_marks P Q areas run.from (run.to - run.from) run.to (omega (arith, is.ordered)) is.within is.inside is.before
    is.behind

-- The places of a zak space whose areas are in the order of their numbers.
module _ (areas : List Area) (s : Space) (begin : ℕ) (laid : IsLaid areas)
    (order : AreInOrder areas s (places_of (stock_of areas).spaces s) begin) (r : Reach) where
  abbrev pub count : ℕ
  count = places_of (stock_of areas).spaces s

  abbrev pub test : Res → Bool
  test = covers (stock_of areas).spaces (touch.Places s r)

  -- an area that is covered is at the place that its number gives
  covered_at : (k : ℕ) (a : Area) → slice_get areas k ≡ Some a → test a.res ≡ true
      → (n : ℕ) × (n < count) × (reaches r n ≡ true) × (k ≡ begin + n)
  covered_at k a g c =
      let within = places_within (stock_of areas) s r in
      let among : is_among within a.res ≡ true = sym (covers_named areas k a.res (a, g, refl) (touch.Places s r)) ∙ c in
      let t = place_named (stock_of areas) s r a.res (among_contains within a.res among) in
      (t.0, t.1, t.2, laid.apart k (begin + t.0) (zak_place s t.0) (a, g, sym t.3) (order.each t.0 t.1))

  number_covered : (k n : ℕ) (a : Area) → slice_get areas k ≡ Some a → k ≡ begin + n → n < count
      → reaches r n ≡ true → test a.res ≡ true
  number_covered k n a g e l h =
      let within = places_within (stock_of areas) s r in
      let p = order.each n l in
      let there : slice_get areas k ≡ Some p.0 = ap (slice_get areas) e ∙ p.1 in
      let same : p.0.res ≡ a.res = let f = sym there ∙ g in cc in
      covers_named areas k a.res (a, g, refl) (touch.Places s r)
      ∙ contains_among within a.res (subst (Contains within) (sym p.2 ∙ same) (named_place (stock_of areas) s r n l h))

  pub placed_run : (numbers : Run) (run : Run)
      → ((n : ℕ) → n < count → reaches r n ≡ true → (numbers.from ≤ n) × (n < numbers.to))
      → ((n : ℕ) → numbers.from ≤ n → n < numbers.to → reaches r n ≡ true) → numbers.to ≤ count
      → numbers.from ≤ numbers.to → run.from ≡ begin + numbers.from → run.to ≡ begin + numbers.to → IsRun areas test run
  placed_run numbers run within all few ordered from to = record {
    ordered = omega (arith, ordered, from, to);
    within = omega (arith, few, to, order.within);
    inside = λ k a g m l. inside k a g m l;
    before = λ k a g l. false_from_ne_true (test a.res) (λ c. outside_before k a g l c);
    behind = λ k a g l. false_from_ne_true (test a.res) (λ c. outside_behind k a g l c);
  }
    where
      inside : (k : ℕ) (a : Area) → slice_get areas k ≡ Some a → run.from ≤ k → k < run.to → test a.res ≡ true
      inside k a g m l =
          let n : (n : ℕ) × (k ≡ begin + n) = (k - begin, omega (arith, m, from)) in
          let e = n.1 in
          number_covered k n.0 a g e (omega (arith, e, l, to, few))
          (all n.0 (omega (arith, e, m, from)) (omega (arith, e, l, to)))

      outside_before : (k : ℕ) (a : Area) → slice_get areas k ≡ Some a → k < run.from → test a.res ≡ true → ⊥
      outside_before k a g l c =
          let t = covered_at k a g c in
          let w = within t.0 t.1 t.2 in let w0 = w.0 in let e = t.3 in omega (arith, w0, e, l, from)

      outside_behind : (k : ℕ) (a : Area) → slice_get areas k ≡ Some a → run.to ≤ k → test a.res ≡ true → ⊥
      outside_behind k a g l c =
          let t = covered_at k a g c in
          let w = within t.0 t.1 t.2 in let w1 = w.1 in let e = t.3 in omega (arith, w1, e, l, to)

-- the run of the places of a zak space, given the number of its places
pub placed_is : (areas : List Area) (s : Space) (spaces : Spaces) (count begin : ℕ) (r : Reach) → IsLaid areas
    → spaces ≡ (stock_of areas).spaces → count ≡ places_of spaces s → AreInOrder areas s count begin
    → (numbers run : Run) → ((n : ℕ) → n < count → reaches r n ≡ true → (numbers.from ≤ n) × (n < numbers.to))
    → ((n : ℕ) → numbers.from ≤ n → n < numbers.to → reaches r n ≡ true) → numbers.to ≤ count
    → numbers.from ≤ numbers.to → run.from ≡ begin + numbers.from → run.to ≡ begin + numbers.to
    → IsRun areas (covers spaces (touch.Places s r)) run
placed_is areas s spaces count begin r laid sized counted order numbers run within all few ordered from to =
    let same : count ≡ places_of (stock_of areas).spaces s = counted ∙ ap (λ z. places_of z s) sized in
    subst (λ z. IsRun areas (covers z (touch.Places s r)) run) (sym sized)
    (placed_run areas s begin laid (subst (λ m. AreInOrder areas s m begin) same order) r numbers run
    (λ n l. within n (omega (arith, l, same))) all (omega (arith, few, same)) ordered from to)

-- one more place is in order
pub one_more : (areas : List Area) (s : Space) (begin m place : ℕ) (g : Res) → g ≡ zak_place s m
    → AreInOrder areas s m begin → HasPlace areas g place → place ≡ begin + m → AreInOrder areas s (m + 1) begin
one_more areas s begin m place g is all here e = record {
  within = let w = slice_get_within areas place here.0 here.1 in omega (arith, w, e);
  each = λ n l. ⊎_elim (all.each n) (λ h.
      let same : m ≡ n = omega (arith, h, l) in
      subst (λ k. HasPlace areas (zak_place s k) (begin + k)) same
      (subst (λ k. HasPlace areas (zak_place s m) k) e (subst (λ r. HasPlace areas r place) is here))) (cases_lt n m);
}

-- If places aren't in the order of their numbers, no run begins anywhere: one of them has no area, or has it
-- elsewhere.
module _ (areas : List Area) (s : Space) (m n : ℕ) (g : Res) (is : g ≡ zak_place s n) (low : n < m) where
  pub unplaced : ((place : ℕ) → ¬ (HasPlace areas g place)) → (begin : ℕ) → ¬ (AreInOrder areas s m begin)
  unplaced none begin order = none (begin + n) (subst (λ r. HasPlace areas r (begin + n)) (sym is) (order.each n low))

  pub elsewhere : IsLaid areas → (first place : ℕ) → ((p : ℕ) → HasPlace areas (zak_place s 0) p → first ≡ p)
      → HasPlace areas g place → (place ≡ first + n → ⊥) → (begin : ℕ) → ¬ (AreInOrder areas s m begin)
  elsewhere laid first place at here other begin order =
      let there = laid.apart place (begin + n) g here
      (subst (λ r. HasPlace areas r (begin + n)) (sym is) (order.each n low)) in
      let start = at (begin + 0) (order.each 0 (omega (arith, low))) in
      other (omega (arith, there, start))

area_at : (areas : List Area) (k : ℕ) → k < length areas → (a : Area) × (slice_get areas k ≡ Some a)
area_at areas k l =
    ⊎_elim (λ h. (h.0, h.2)) (λ h. absurd (let past = h.0 in omega (arith, l, past))) (slice_get_cases areas k).1

-- the area at a place is the one searched for, or the search goes on
same_test : (x y : Bool) → beq x y ≡ true → x ≡ y
same_test true true e = refl
same_test true false e = sym e
same_test false true e = e
same_test false false e = refl

other_test : (x y : Bool) → beq x y ≡ false → x ≡ not y
other_test true true e = e
other_test true false e = refl
other_test false true e = refl
other_test false false e = sym e

pub sought_here : (areas : List Area) (test : Res → Bool) (wanted found : Bool) (place : ℕ) (here : Area)
    → slice_get areas place ≡ Some here → found ≡ test here.res → beq found wanted ≡ true
    → (a : Area) → slice_get areas place ≡ Some a → test a.res ≡ wanted
sought_here areas test wanted found place here at is found_it a there =
    let same : a ≡ here = cc in ap (λ (x : Area). test x.res) same ∙ sym is ∙ same_test found wanted found_it

pub sought_later : (areas : List Area) (test : Res → Bool) (wanted found : Bool) (from place : ℕ) (here : Area)
    → ((k : ℕ) (a : Area) → slice_get areas k ≡ Some a → from ≤ k → k < place → test a.res ≡ not wanted)
    → slice_get areas place ≡ Some here → found ≡ test here.res → beq found wanted ≡ false
    → (k : ℕ) (a : Area) → slice_get areas k ≡ Some a → from ≤ k → k < place + 1 → test a.res ≡ not wanted
sought_later areas test wanted found from place here before at is other k a there low below =
    ⊎_elim (λ l. before k a there low l) (λ l.
    let last : k ≡ place = omega (arith, l, below) in
    let same : a ≡ here = cc in ap (λ (x : Area). test x.res) same ∙ sym is ∙ other_test found wanted other)
    (cases_lt k place)

-- areas that pass a test form no run if an area between them fails it
pub no_run : (areas : List Area) (test : Res → Bool) (from to next : ℕ)
    → ((a : Area) → slice_get areas from ≡ Some a → test a.res ≡ true)
    → ((a : Area) → slice_get areas to ≡ Some a → test a.res ≡ false)
    → ((a : Area) → slice_get areas next ≡ Some a → test a.res ≡ true)
    → from ≤ to → to ≤ next → next < length areas → (run : Run) → ¬ (IsRun areas test run)
no_run areas test from to next first gap again ordered onward l run is =
    let f = area_at areas from (omega (arith, l, onward, ordered)) in
    let t = area_at areas to (omega (arith, l, onward)) in
    let n = area_at areas next l in
    let low = ⊎_elim (λ h. absurd (true≢false (sym (first f.0 f.1) ∙ is.before from f.0 f.1 h))) (λ h. h)
    (cases_lt from run.from) in
    let high = ⊎_elim (λ h. h) (λ h. absurd (true≢false (sym (again n.0 n.1) ∙ is.behind next n.0 n.1 h)))
    (cases_lt next run.to) in
    true≢false (sym (is.inside to t.0 t.1 (omega (arith, low, ordered)) (omega (arith, high, onward))) ∙ gap t.0 t.1)

-- a property of both spaces holds for each
pub of_each : (P : Space → Type 0) → P space.Control → P space.Audio → (s : Space) → P s
of_each P c a space.Control = c
of_each P c a space.Audio = a

-- the place of a zak space's first area
pub begins_there : (areas : List Area) (runs : Runs) (s : Space) (begin : ℕ) → AreRuns areas runs
    → Some begin ≡ begin_of runs s → AreInOrder areas s (places_of runs.spaces s) begin
begins_there areas runs s begin are e =
    subst (λ o. IfSome o (AreInOrder areas s (places_of runs.spaces s))) (sym e) (are.places s).0
