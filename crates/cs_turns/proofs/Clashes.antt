-- Notes conflict by what they share if and only if their footprints clash.
use Rattle.std.proofs.lemmas.{Grind.common_steps, Bool.Decides.nat_tests}
use Rattle.std.proofs.Common.{◌≡◌, ◌<◌, ℕ, zero, suc, length, arith, Bool, true, List, [], ◌∷◌, slice_get, Option, Some}
use Rattle.std.proofs.Common.{None, refl, sym, subst, ap, ◌∙◌, ⊎_elim, inl, inr, if◌then◌else◌}
use Rattle.std.specs.List.{All, Contains, list_any}
use Rattle.std.proofs.lemmas.Option.{get_or_from_slice_get, slice_get-get_or, slice_get_within}
use Rattle.cs_base.proofs.{Tests.some_is, Rates.same_res_is}
use Rattle.std.proofs.lemmas.Bool.{cases_Bool, or_cases, or_left, or_right}
use Rattle.cs_base.specs.{Rates.same_res, declared.resource.Res.Res}
use Rattle.cs_cells.specs.{Areas.HasPlace, Areas.IsFootprint, Areas.IsLaid, Cells.covers, Cells.in_area}
use Rattle.cs_cells.specs.{declared.footprint.Area.Area, declared.footprint.Footprint.Footprint}
use Rattle.cs_cells.proofs.Laid.{one_place}
use Rattle.cs_graph.specs.Conflict.{Clash, UsesResource}
use Rattle.cs_rwset.specs.Footprints.{is_among, places_holding}
use Rattle.cs_rwset.proofs.Holding.{at_covers, covered_at, covers_holding}
use Rattle.cs_rwset.proofs.Placed.{among_contains, contains_among, contains_cases, contains_first, contains_none}
use Rattle.cs_rwset.proofs.Placed.{contains_rest, exact_places}
use Rattle.cs_voice_meaning.specs.{Follows.AreNamed, Placing.HasArea, Placing.area_of}
use Rattle.cs_turns.specs.Turns.{AreOver, Touched, conflict, share}

-- ITEMS that pass a test

found : {X : Type 0} (test : X → Bool) (xs : List X) → list_any test xs ≡ true
    → (x : X) × Contains xs x × (test x ≡ true)
found test [] h = absurd (cc)
found test (x ∷ xs) h =
    ⊎_elim (λ here. (x, contains_first x xs, here))
    (λ later. let more = found test xs later in (more.0, contains_rest x more.0 xs more.1, more.2))
    (or_cases (test x) (list_any test xs) h)

passes : {X : Type 0} (test : X → Bool) (xs : List X) (x : X) → Contains xs x → test x ≡ true → list_any test xs ≡ true
passes test [] x h e = absurd (contains_none x h)
passes test (y ∷ xs) x h e =
    ⊎_elim (λ same. or_left (test y) (list_any test xs) (subst (λ z. test z ≡ true) (sym same) e))
    (λ later. or_right (test y) (list_any test xs) (passes test xs x later e)) (contains_cases y x xs h)

shared : (rs ss : List Res) → share rs ss ≡ true → (r : Res) × Contains rs r × Contains ss r
shared rs ss h = let one = found (is_among ss) rs h in (one.0, one.1, among_contains ss one.0 one.2)

shares : (rs ss : List Res) (r : Res) → Contains rs r → Contains ss r → share rs ss ≡ true
shares rs ss r h k = passes (is_among ss) rs r h (contains_among ss r k)

named_at : (N : Res → Type 0) (gs : List Res) (g : Res) → AreNamed N gs → Contains gs g → N g
named_at N [] g h k = absurd (contains_none g k)
named_at N (x ∷ gs) g h k =
    ⊎_elim (λ same. subst N same h.0) (λ later. named_at N gs g h.1 later) (contains_cases x g gs k)

-- AREAS at their indexes

place_of : (areas : List Area) (g : Res) → HasArea areas g → (place : ℕ) × HasPlace areas g place
place_of [] g h = absurd (let no : ◌≡◌ {A = Option Area} None (Some h.0) = h.1 in cc)
place_of (x ∷ areas) g h =
    ⊎_elim
    (λ here. (zero, (x, refl, same_res_is x.res g here)))
    (λ other. let more = place_of areas g
    (h.0, sym (ap (λ b. if b then Some x else area_of areas g) other) ∙ h.1) in (suc more.0, more.1))
    (cases_Bool (same_res x.res g))

-- CELLS of areas, none of which is empty

first_cell : (area : Area) → 0 < area.length → in_area (Some area) area.first ≡ true
first_cell area some = grind (arith, nat_tests)

area_there : (areas : List Area) (place : ℕ) → place < length areas → (x : Area) × (slice_get areas place ≡ Some x)
area_there [] place low = absurd (omega (arith, low))
area_there (x ∷ areas) zero low = (x, refl)
area_there (x ∷ areas) (suc place) low = area_there areas place (omega (arith, low))

some_there : (areas : List Area) (place : ℕ) (x : Area) → All (λ (a : Area). 0 < a.length) areas
    → slice_get areas place ≡ Some x → 0 < x.length
some_there areas place x some at =
    subst (λ (a : Area). 0 < a.length) (get_or_from_slice_get areas place x x at)
    (some place x (slice_get_within areas place x at))

-- two areas that share a cell belong to one resource
one_area : (areas : List Area) (x y : Area) (a : ℕ) → IsLaid areas → Contains areas x → Contains areas y
    → in_area (Some x) a ≡ true → in_area (Some y) a ≡ true → x.res ≡ y.res
one_area areas x y a laid hx hy ix iy =
    let px = slice_get-get_or areas hx.0 x hx.1 ∙ ap Some hx.2 in
    let py = slice_get-get_or areas hy.0 y hy.1 ∙ ap Some hy.2 in
    let one : hx.0 ≡ hy.0 = one_place areas hx.0 hy.0 a laid (ap (λ o. in_area o a) px ∙ ix)
    (ap (λ o. in_area o a) py ∙ iy) in
    let both : Some x ≡ Some y = sym px ∙ ap (slice_get areas) one ∙ py in
    ap (λ z. z.res) (some_is x y both)

-- NOTES and their footprints

-- A footprint in terms of zones belongs to what a note touches: it covers the cells of its areas.
pub record IsFootFor (areas zones : List Area) (t : Touched) (foot : Footprint) : Type 0 where
  pub uses : (a : ℕ) → covers zones foot.uses a ≡ covers areas (places_holding areas t.uses) a
  pub writes : (a : ℕ) → covers zones foot.writes a ≡ covers areas (places_holding areas t.writes) a
  pub there : AreNamed (HasArea areas) t.uses
  pub places : IsFootprint (length zones) foot

module _ (areas zones : List Area) (over : AreOver areas zones) (p t : Touched) (f g : Footprint)
    (h : IsFootFor areas zones p f) (k : IsFootFor areas zones t g) where
  -- a cell of a footprint belongs to a resource that is used, or written
  abbrev Holds : List Res → ℕ → Type 0
  Holds rs a = (area : Area) × Contains areas area × Contains rs area.res × (in_area (Some area) a ≡ true)

  cell_of : (x : Touched) (foot : Footprint) (place : ℕ) → IsFootFor areas zones x foot → Contains foot.uses place
      → (a : ℕ) × (in_area (slice_get zones place) a ≡ true)
  cell_of x foot place is u =
      let z = area_there zones place (is.places.within place u) in
      (z.0.first, ap (λ o. in_area o z.0.first) z.1 ∙ first_cell z.0 (some_there zones place z.0 over.some_zones z.1))

  holds_used : (x : Touched) (foot : Footprint) (place a : ℕ) → IsFootFor areas zones x foot
      → UsesResource foot place → in_area (slice_get zones place) a ≡ true → Holds x.uses a
  holds_used x foot place a is u inside =
      let used : Contains foot.uses place = ⊎_elim (λ u. u) (λ w. is.places.written place w) u in
      covers_holding areas x.uses a (sym (is.uses a) ∙ at_covers zones foot.uses place a used inside)

  holds_written : (x : Touched) (foot : Footprint) (place a : ℕ) → IsFootFor areas zones x foot
      → Contains foot.writes place → in_area (slice_get zones place) a ≡ true → Holds x.writes a
  holds_written x foot place a is w inside =
      covers_holding areas x.writes a (sym (is.writes a) ∙ at_covers zones foot.writes place a w inside)

  at_one : (rs ss : List Res) (a : ℕ) → Holds rs a → Holds ss a → share rs ss ≡ true
  at_one rs ss a x y = shares rs ss x.0.res x.2
      (subst (Contains ss) (one_area areas y.0 x.0 a over.areas_laid y.1 x.1 y.3 x.3) y.2)

  pub conflicts : Clash f g → conflict p t ≡ true
  conflicts c = ⊎_elim (λ x. let a = cell_of p f c.0 h (h.places.written c.0 x.0) in
      or_left (share p.writes t.uses) (share t.writes p.uses)
      (at_one p.writes t.uses a.0 (holds_written p f c.0 a.0 h x.0 a.1) (holds_used t g c.0 a.0 k x.1 a.1)))
      (λ x. let a = cell_of t g c.0 k (k.places.written c.0 x.1) in
      or_right (share p.writes t.uses) (share t.writes p.uses)
      (at_one t.writes p.uses a.0 (holds_written t g c.0 a.0 k x.1 a.1) (holds_used p f c.0 a.0 h x.0 a.1))) c.1

  -- a resource that is used, or written, is in the footprint
  covers_res : (rs : List Res) (r : Res) (place : ℕ) (area : Area) → Contains rs r → slice_get areas place ≡ Some area
      → area.res ≡ r → covers areas (places_holding areas rs) area.first ≡ true
  covers_res rs r place area among at is =
      at_covers areas (places_holding areas rs) place area.first (exact_places areas rs place r among (area, at, is))
      (ap (λ o. in_area o area.first) at ∙ first_cell area (some_there areas place area over.some_areas at))

  meets : (fs gs : List ℕ) (a : ℕ) → covers zones fs a ≡ true → covers zones gs a ≡ true
      → (place : ℕ) × Contains fs place × Contains gs place
  meets fs gs a x y = grind (arith, common_steps, covered_at, one_place)

  pub clashes : conflict p t ≡ true → Clash f g
  clashes c = ⊎_elim (λ x. let r = shared p.writes t.uses x in
      let at = place_of areas r.0 (named_at (HasArea areas) t.uses r.0 k.there r.2) in
      let m = meets f.writes g.uses at.1.0.first
      (h.writes at.1.0.first ∙ covers_res p.writes r.0 at.0 at.1.0 r.1 at.1.1 at.1.2)
      (k.uses at.1.0.first ∙ covers_res t.uses r.0 at.0 at.1.0 r.2 at.1.1 at.1.2) in
      (m.0, inl (m.1, inl m.2))) (λ x. let r = shared t.writes p.uses x in
      let at = place_of areas r.0 (named_at (HasArea areas) p.uses r.0 h.there r.2) in
      let m = meets g.writes f.uses at.1.0.first
      (k.writes at.1.0.first ∙ covers_res t.writes r.0 at.0 at.1.0 r.1 at.1.1 at.1.2)
      (h.uses at.1.0.first ∙ covers_res p.uses r.0 at.0 at.1.0 r.2 at.1.1 at.1.2) in
      (m.0, inr (inl m.2, m.1))) (or_cases (share p.writes t.uses) (share t.writes p.uses) c)
