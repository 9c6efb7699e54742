-- The ops to which the places of a footprint belong, and the cells that the places cover.
use Rattle.std.proofs.Common.{◌≡◌, ℕ, zero, suc, List, [], ◌∷◌, slice_get, Option, Some, None, true, refl, sym, ◌∙◌, ap}
use Rattle.std.proofs.Common.{subst, ⊎_elim}
use Rattle.std.specs.List.{Contains, flat_map}
use Rattle.std.proofs.lemmas.{Bool.or_cases, Bool.or_left, Bool.or_right, Option.slice_get-get_or}
use Rattle.std.proofs.lemmas.List.Elements.{Contains-append_left, Contains-append_right, Contains-append_cases}
use Rattle.cs_base.specs.declared.resource.Res.{Res}
use Rattle.cs_cells.specs.{Areas.HasPlace, Cells.covers, Cells.in_area, declared.footprint.Area.Area}
use Rattle.cs_ir.specs.declared.op.Op.{Op}
use Rattle.cs_rwset.specs.Footprints.{places_holding}
use Rattle.cs_rwset.proofs.Placed.{exact_places, places_exact, contains_none, contains_first, contains_rest}
use Rattle.cs_rwset.proofs.Placed.{contains_cases}

-- the elements of a flattened list
module _ {X Y : Type 0} (f : X → List Y) where
  pub of_each : (xs : List X) (x : X) (y : Y) → Contains xs x → Contains (f x) y → Contains (flat_map f xs) y
  of_each [] x y h k = absurd (contains_none x h)
  of_each (z ∷ xs) x y h k =
      ⊎_elim (λ same. Contains-append_left (f z) (flat_map f xs) y (subst (λ w. Contains (f w) y) (sym same) k))
      (λ later. Contains-append_right (f z) (flat_map f xs) y (of_each xs x y later k)) (contains_cases z x xs h)

  pub each_of : (xs : List X) (y : Y) → Contains (flat_map f xs) y → (x : X) × Contains xs x × Contains (f x) y
  each_of [] y h = absurd (contains_none y h)
  each_of (z ∷ xs) y h =
      ⊎_elim (λ here. (z, contains_first z xs, here))
      (λ t. let later = each_of xs y t in (later.0, contains_rest z later.0 xs later.1, later.2))
      (Contains-append_cases (f z) (flat_map f xs) y h)

-- The places of all ops' resources are the places of some op's resources.
module _ (areas : List Area) (f : Op → List Res) (ops : List Op) (place : ℕ) where
  pub places_of_each : Contains (places_holding areas (flat_map f ops)) place
      → (op : Op) × (r : Res) × Contains ops op × Contains (f op) r × HasPlace areas r place
  places_of_each h =
      let e = places_exact areas (flat_map f ops) place h in
      let o = each_of f ops e.0 e.1 in
      (o.0, e.0, o.1, o.2, e.2)

  pub each_placed : (op : Op) × (r : Res) × Contains ops op × Contains (f op) r × HasPlace areas r place
      → Contains (places_holding areas (flat_map f ops)) place
  each_placed h = exact_places areas (flat_map f ops) place h.1 (of_each f ops h.0 h.1 h.2 h.3) h.4

-- An address is covered by a list of places if and only if it is in the area at one of them.
pub none_in : (a : ℕ) → in_area None a ≡ true → ⊥
none_in a h = cc

some_in : (o : Option Area) (a : ℕ) → in_area o a ≡ true
    → (area : Area) × (o ≡ Some area) × (in_area (Some area) a ≡ true)
some_in None a h = absurd (none_in a h)
some_in (Some area) a h = (area, refl, h)

pub covered_at : (areas : List Area) (places : List ℕ) (a : ℕ) → covers areas places a ≡ true
    → (place : ℕ) × Contains places place × (in_area (slice_get areas place) a ≡ true)
covered_at areas [] a h = absurd cc
covered_at areas (p ∷ places) a h =
    ⊎_elim (λ here. (p, contains_first p places, here))
    (λ t. let later = covered_at areas places a t in (later.0, contains_rest p later.0 places later.1, later.2))
    (or_cases (in_area (slice_get areas p) a) (covers areas places a) h)

pub at_covers : (areas : List Area) (places : List ℕ) (place a : ℕ) → Contains places place
    → in_area (slice_get areas place) a ≡ true → covers areas places a ≡ true
at_covers areas [] place a h k = absurd (contains_none place h)
at_covers areas (p ∷ places) place a h k =
    ⊎_elim (λ same. or_left (in_area (slice_get areas p) a) (covers areas places a)
    (subst (λ q. in_area (slice_get areas q) a ≡ true) (sym same) k))
    (λ later. or_right (in_area (slice_get areas p) a) (covers areas places a) (at_covers areas places place a later k))
    (contains_cases p place places h)

-- an area of the layout is at some place, and the area at a place is in the layout
placed : (areas : List Area) (area : Area) → Contains areas area → (place : ℕ) × (slice_get areas place ≡ Some area)
placed areas area h = (h.0, slice_get-get_or areas h.0 area h.1 ∙ ap Some h.2)

there : (areas : List Area) (place : ℕ) (area : Area) → slice_get areas place ≡ Some area → Contains areas area
there [] place area e = absurd cc
there (x ∷ areas) zero area e =
    subst (λ y. Contains (x ∷ areas) y) (let same : x ≡ area = cc in same) (contains_first x areas)
there (x ∷ areas) (suc place) area e = contains_rest x area areas (there areas place area e)

res_there : (o : Option Area) (x y : Area) (r : Res) → o ≡ Some x → o ≡ Some y → x.res ≡ r → r ≡ y.res
res_there o x y r e f g = cc

-- The places of resources cover exactly the cells of the areas whose resource is in the list.
pub holding_covers : (areas : List Area) (rs : List Res) (area : Area) (a : ℕ) → Contains areas area
    → Contains rs area.res → in_area (Some area) a ≡ true → covers areas (places_holding areas rs) a ≡ true
holding_covers areas rs area a here of lies =
    let p = placed areas area here in
    at_covers areas (places_holding areas rs) p.0 a (exact_places areas rs p.0 area.res of (area, p.1, refl))
    (subst (λ o. in_area o a ≡ true) (sym p.1) lies)

pub covers_holding : (areas : List Area) (rs : List Res) (a : ℕ) → covers areas (places_holding areas rs) a ≡ true
    → (area : Area) × Contains areas area × Contains rs area.res × (in_area (Some area) a ≡ true)
covers_holding areas rs a h =
    let c = covered_at areas (places_holding areas rs) a h in
    let e = places_exact areas rs c.0 c.1 in
    let s = some_in (slice_get areas c.0) a c.2 in (
      s.0,
      there areas c.0 s.0 s.1,
      subst (λ r. Contains rs r) (res_there (slice_get areas c.0) e.2.0 s.0 e.0 e.2.1 s.1 e.2.2) e.1,
      s.2,
    )
