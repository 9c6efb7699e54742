-- Numbers that two ascending lists have in common, and resources that two footprints have in common.
use Rattle.std.proofs.lemmas.Bool.{cases_eq}
use Rattle.std.proofs.lemmas.List.{get_or_default, get_or-map, length-map}
use Rattle.std.proofs.lemmas.List.Kept.{AllPairs-from_increasing}
use Rattle.std.proofs.Common.{◌≡◌, ◌⊎◌, ◌↔◌, ℕ, ◌+◌, ◌-◌, ◌<◌, ◌≤◌, ◌||◌, Bool, true, false, List}
use Rattle.std.proofs.Common.{[], length, map, get_or, refl, sym, ap, ◌∙◌, subst, inl, inr, ⊎_elim, arith}
use Rattle.std.specs.{List.Contains, List.Sorted.IsStrictlyIncreasing}
use Rattle.cs_cells.specs.{Areas.IsFootprint, declared.footprint.Footprint.Footprint}
use Rattle.cs_graph.specs.Conflict.{Clash, Conflict, UsesResource, foot}

-- some number is in both lists
abbrev pub HaveCommon : List ℕ → List ℕ → Type 0
HaveCommon xs ys = (r : ℕ) × Contains xs r × Contains ys r

-- a common number is at index n or later in the first list, and at m or later in the second
abbrev pub StandsFrom : ℕ → ℕ → List ℕ → List ℕ → Type 0
StandsFrom n m xs ys = (i j : ℕ) → i < length xs → j < length ys → get_or xs i 0 ≡ get_or ys j 0 → (n ≤ i) × (m ≤ j)

rises : (zs : List ℕ) (i j : ℕ) → IsStrictlyIncreasing zs → i ≤ j → j < length zs → get_or zs i 0 ≤ get_or zs j 0
rises zs i j up low within =
    ⊎_elim (λ (same : i ≡ j). let e : get_or zs i 0 ≡ get_or zs j 0 = ap (λ k. get_or zs k 0) same in omega (arith, e))
    (λ other. let less : get_or zs i 0 < get_or zs j 0 =
    AllPairs-from_increasing zs up i j 0 (omega (arith, low, other)) within in omega (arith, less)) (cases_eq i j)

module _ (xs ys : List ℕ) where
  -- the first list goes on
  pub first_on : (n m : ℕ) → IsStrictlyIncreasing ys → get_or xs n 0 < get_or ys m 0 → StandsFrom n m xs ys
      → StandsFrom (n + 1) m xs ys
  first_on n m up less from i j il jl e =
      let h = from i j il jl e in
      let low : get_or ys m 0 ≤ get_or ys j 0 = rises ys m j up h.1 jl in (
        ⊎_elim (λ (same : n ≡ i).
            let here : get_or xs n 0 ≡ get_or ys j 0 = ap (λ k. get_or xs k 0) same ∙ e in
            absurd (omega (arith, less, low, here))) (λ other. omega (arith, h.0, other)) (cases_eq n i),
        h.1,
      )

  -- the second list goes on
  pub second_on : (n m : ℕ) → IsStrictlyIncreasing xs → get_or ys m 0 < get_or xs n 0 → StandsFrom n m xs ys
      → StandsFrom n (m + 1) xs ys
  second_on n m up less from i j il jl e =
      let h = from i j il jl e in
      let low : get_or xs n 0 ≤ get_or xs i 0 = rises xs n i up h.0 il in (
        h.0,
        ⊎_elim (λ (same : m ≡ j).
            let here : get_or ys m 0 ≡ get_or xs i 0 = ap (λ k. get_or ys k 0) same ∙ sym e in
            absurd (omega (arith, less, low, here))) (λ other. omega (arith, h.1, other)) (cases_eq m j),
      )

  -- at these indexes both lists have the same number
  pub common_here : (n m : ℕ) → n < length xs → m < length ys → get_or xs n 0 ≡ get_or ys m 0 → HaveCommon xs ys
  common_here n m nl ml e =
      let r : ℕ = get_or xs n 0 in
      (r, (n, nl, get_or_default xs n r 0 nl), (m, ml, get_or_default ys m r 0 ml ∙ sym e))

  -- nothing is left in one of the lists
  pub none_common : (n m : ℕ) → (n < length xs → m < length ys → ⊥) → StandsFrom n m xs ys → ¬ (HaveCommon xs ys)
  none_common n m over from h =
      let a = h.1 in
      let b = h.2 in
      let e : get_or xs a.0 0 ≡ get_or ys b.0 0 =
      sym (get_or_default xs a.0 h.0 0 a.1) ∙ a.2 ∙ sym b.2 ∙ get_or_default ys b.0 h.0 0 b.1 in
      let at_ = from a.0 b.0 a.1 b.1 e in
      over (omega (arith, at_.0, a.1)) (omega (arith, at_.1, b.1))

-- two footprints clash if and only if one writes what the other uses
pub clashes : (n : ℕ) (f g : Footprint) (a b : Bool) → IsFootprint n f → IsFootprint n g
    → (a ≡ true) ↔ HaveCommon f.writes g.uses → (b ≡ true) ↔ HaveCommon f.uses g.writes
    → ((a || b) ≡ true) ↔ Clash f g
clashes n f g a b F G first second = (told a b first.0 second.0, found a b first.1 second.1)
  where
    told : (a b : Bool) → (a ≡ true → HaveCommon f.writes g.uses) → (b ≡ true → HaveCommon f.uses g.writes)
        → (a || b) ≡ true → Clash f g
    told true b p q h = let w = p refl in (w.0, inl (w.1, inl w.2))
    told false true p q h = let w = q refl in (w.0, inr (inl w.1, w.2))
    told false false p q h = absurd (cc)

    either_way : (a b : Bool) → (a ≡ true) ⊎ (b ≡ true) → (a || b) ≡ true
    either_way true b h = refl
    either_way false true h = refl
    either_way false false h = ⊎_elim (λ x. x) (λ x. x) h

    used : (h : Footprint) (r : ℕ) → IsFootprint n h → UsesResource h r → Contains h.uses r
    used h r is = ⊎_elim (λ u. u) (λ w. is.written r w)

    found : (a b : Bool) → (HaveCommon f.writes g.uses → a ≡ true) → (HaveCommon f.uses g.writes → b ≡ true)
        → Clash f g → (a || b) ≡ true
    found a b p q c = either_way a b
        (⊎_elim (λ w. inl (p (c.0, w.0, used g c.0 G w.1))) (λ w. inr (q (c.0, used f c.0 F w.0, w.1))) c.1)

-- the same after the first test failed, with copies of their lists
pub clashes_by : (n : ℕ) (f g : Footprint) (a b : Bool) (fw gu fu gw : List ℕ) → fw ≡ f.writes → gu ≡ g.uses
    → fu ≡ f.uses → gw ≡ g.writes → a ≡ false → IsFootprint n f → IsFootprint n g → (a ≡ true) ↔ HaveCommon fw gu
    → (b ≡ true) ↔ HaveCommon fu gw → (b ≡ true) ↔ Clash f g
clashes_by n f g a b fw gu fu gw fw_is gu_is fu_is gw_is failed F G first second =
    subst (λ (x : Bool). ((x || b) ≡ true) ↔ Clash f g) failed
    (clashes n f g a b F G
    (subst (λ (xs : List ℕ). (a ≡ true) ↔ HaveCommon xs g.uses) fw_is
    (subst (λ (ys : List ℕ). (a ≡ true) ↔ HaveCommon fw ys) gu_is first))
    (subst (λ (xs : List ℕ). (b ≡ true) ↔ HaveCommon xs g.writes) fu_is
    (subst (λ (ys : List ℕ). (b ≡ true) ↔ HaveCommon fu ys) gw_is second)))

-- equal footprints clash with the same footprints
pub clash_of : (f g f' g' : Footprint) → f' ≡ f → g' ≡ g → Clash f g → Clash f' g'
clash_of f g f' g' e h c = subst (λ z. Clash z g') (sym e) (subst (λ z. Clash f z) (sym h) c)

-- Two neighbours in a list of jobs, at index m; x is the earlier one and y the later one.
module _ {J : Type 0} (f : J → Footprint) (js : List J) (m : ℕ) (x y : J) (some : 1 ≤ m) (within : m < length js)
    (x_is : x ≡ get_or js (m - 1) x) (y_is : y ≡ get_or js m y) where
  -- their footprints
  earlier_foot : (t : ℕ) → t + 1 ≡ m → foot (map f js) t ≡ f x
  earlier_foot t e =
      let same : t ≡ m - 1 = omega (arith, e) in
      get_or-map f js t x (record { uses = []; writes = [] }) (omega (arith, within, e))
      ∙ ap f (ap (λ k. get_or js k x) same ∙ sym x_is)

  later_foot : (u : ℕ) → u ≡ m → foot (map f js) u ≡ f y
  later_foot u e =
      get_or-map f js u y (record { uses = []; writes = [] }) (omega (arith, within, e))
      ∙ ap f (ap (λ k. get_or js k y) e ∙ sym y_is)

  -- if they clash, all neighbours up to them conflict if those before them do
  pub one_more : Clash (f x) (f y) → ((t : ℕ) → t + 1 < m → Conflict (map f js) t (t + 1))
      → (t : ℕ) → t + 1 < m + 1 → Conflict (map f js) t (t + 1)
  one_more here so_far t low =
      ⊎_elim (λ (e : t + 1 ≡ m). record {
        earlier = omega arith;
        within = omega (arith, within, length-map js f, e);
        clash = subst (λ z. Clash z (foot (map f js) (t + 1))) (sym (earlier_foot t e))
            (subst (λ z. Clash (f x) z) (sym (later_foot (t + 1) e)) here);
      }) (λ other. so_far t (omega (arith, low, other))) (cases_eq (t + 1) m)

  -- if they don't clash, not all neighbours conflict
  pub broken : ¬ (Clash (f x) (f y)) → ¬ ((t : ℕ) → t + 1 < length js → Conflict (map f js) t (t + 1))
  broken apart all =
      let e : (m - 1) + 1 ≡ m = omega (arith, some) in
      apart (subst (λ z. Clash z (f y)) (earlier_foot (m - 1) e)
      (subst (λ z. Clash (foot (map f js) (m - 1)) z) (later_foot ((m - 1) + 1) e)
      (all (m - 1) (omega (arith, within, e))).clash))
