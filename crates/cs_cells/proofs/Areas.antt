-- Resources by number: a number denotes one resource, and its index in the set is the resource's index among
-- the areas.
use Rattle.std.proofs.lemmas.{Grind.common_steps, List.map_more, List.length-map, Option.slice_get-get_or}
use Rattle.std.proofs.Common.{◌≡◌, ℕ, zero, suc, ◌+◌, ◌<◌, List, [], ◌∷◌, ◌++◌, length, take, get_or, slice_get, Some}
use Rattle.std.proofs.Common.{Bool, true, false, ◌&&◌, nat_eq, refl, sym, subst, arith, eq-eqb, if◌then◌else◌, ⊎_elim}
use Rattle.std.specs.List.{list_any, position}
use Rattle.std.proofs.lemmas.List.Quantifiers.{position-Some}
use Rattle.std.proofs.lemmas.Bool.{and_from, cond-false, or_left, or_right, or_cases, false_from_ne_true}
use Rattle.cs_base.specs.declared.resource.Res.{Res}
use Rattle.cs_base.proofs.Rates.{same_res_is}
use Rattle.cs_cells.specs.{declared.footprint.Area.Area, Areas.HasPlace, Areas.IsLaid}
use Rattle.cs_cells.specs.inner.Index.{key, keys_of}

-- whether two keys are the same
abbrev pub same : ℕ × ℕ → ℕ × ℕ → Bool
same k y = nat_eq k.0 y.0 && nat_eq k.1 y.1

key_is : (r s : Res) → same (key r) (key s) ≡ true → s ≡ r
key_is r s h = sym (same_res_is r s h)

same_self : (r s : Res) → s ≡ r → same (key r) (key s) ≡ true
same_self r s e = grind (arith, common_steps, and_from, eq-eqb, nat_eq)

at_place : (areas : List Area) (place : ℕ) (d : ℕ × ℕ) → place < length areas
    → (a : Area) × (slice_get areas place ≡ Some a) × (get_or (keys_of areas) place d ≡ key a.res)
at_place [] place d l = absurd (omega arith)
at_place (a ∷ rest) zero d l = (a, refl, refl)
at_place (a ∷ rest) (suc place) d l = at_place rest place d (omega arith)

pub place_found : (areas : List Area) (r : Res) (place : ℕ) → position (same (key r)) (keys_of areas) ≡ Some place
    → HasPlace areas r place
place_found areas r place h =
    let found = position-Some (same (key r)) (keys_of areas) place (0, 0) h in
    let near : place < length areas = omega (arith, found.0, length-map areas (λ a. key a.res)) in
    let here = at_place areas place (0, 0) near in
    (here.0, here.1, key_is r here.0.res (subst (λ k. same (key r) k ≡ true) here.2 found.1))

pub any_place : (areas : List Area) (r : Res) (place : ℕ) → HasPlace areas r place
    → list_any (same (key r)) (keys_of areas) ≡ true
any_place [] r place h = absurd (let at = h.1 in cc)
any_place (a ∷ rest) r zero h = grind (arith, common_steps, or_left, same_self)
any_place (a ∷ rest) r (suc place) h =
    or_right (same (key r) (key a.res)) (list_any (same (key r)) (keys_of rest)) (any_place rest r place h)

some_place : (areas : List Area) (r : Res) → list_any (same (key r)) (keys_of areas) ≡ true
    → (place : ℕ) × HasPlace areas r place
some_place [] r h = absurd (cc)
some_place (a ∷ rest) r h =
    ⊎_elim
    (λ here. (0, (a, refl, key_is r a.res here)))
    (λ later. let found : (place : ℕ) × HasPlace rest r place = some_place rest r later in (suc found.0, found.1))
    (or_cases (same (key r) (key a.res)) (list_any (same (key r)) (keys_of rest)) h)

in_front : (i : ℕ) (areas : List Area) (r : Res) (place : ℕ) → HasPlace (take i areas) r place
    → (place < i) × HasPlace areas r place
in_front zero areas r place h = absurd (let at = h.1 in cc)
in_front (suc i) [] r place h = absurd (let at = h.1 in cc)
in_front (suc i) (a ∷ rest) r zero h = (omega arith, h)
in_front (suc i) (a ∷ rest) r (suc place) h = let found : (place < i) × HasPlace rest r place =
    in_front i rest r place h in (omega arith, found.1)

-- the next area's resource differs from the resources of all areas before it
pub next_is_new : (areas : List Area) (i : ℕ) (d : Area) → IsLaid areas → i < length areas
    → list_any (same (key (get_or areas i d).res)) (keys_of (take i areas)) ≡ false
next_is_new areas i d laid l =
    let r : Res = (get_or areas i d).res in
    false_from_ne_true (list_any (same (key r)) (keys_of (take i areas)))
    (λ h.
    let earlier = some_place (take i areas) r h in
    let before = in_front i areas r earlier.0 earlier.1 in
    let equal : earlier.0 ≡ i =
    laid.apart earlier.0 i r before.1 (get_or areas i d, slice_get-get_or areas i d l, refl) in
    omega arith)

pub keys_more : (areas : List Area) (i : ℕ) (d : Area) (k : ℕ × ℕ) (ks more : List (ℕ × ℕ)) → IsLaid areas
    → i < length areas
    → k ≡ key (get_or areas i d).res → ks ≡ keys_of (take i areas)
    → more ≡ (if list_any (same k) ks then ks else ks ++ k ∷ [])
    → more ≡ keys_of (take (i + 1) areas)
keys_more areas i d k ks more laid l is front grown = grind (arith, common_steps, cond-false, map_more, next_is_new)
