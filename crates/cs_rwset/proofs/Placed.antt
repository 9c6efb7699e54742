-- The places of the areas of a list of resources.
use Rattle.std.proofs.Common.{◌≡◌, ◌<◌, ◌+◌, ◌⊎◌, ℕ, zero, suc, List, [], ◌∷◌, map, length, get_or, slice_get, Option}
use Rattle.std.proofs.Common.{Some, None, Bool, true, false, refl, sym, ap, subst, arith, ⊎_elim, inl, inr}
use Rattle.std.specs.{List.Contains, List.filter, List.range_with_len, List.Sorted.IsStrictlyIncreasing}
use Rattle.std.proofs.lemmas.Bool.{cond_both, or_cases, or_left, or_right}
use Rattle.std.proofs.lemmas.List.FromFn.{length-range_with_len, get_or-range_with_len}
use Rattle.std.proofs.lemmas.{List.Kept.IsStrictlyIncreasing-filter, Option.slice_get_within}
use Rattle.cs_base.specs.{Rates.same_res, declared.resource.Res.Res}
use Rattle.cs_base.proofs.Rates.{same_res_is, same_res_here}
use Rattle.cs_cells.specs.{Areas.HasPlace, declared.footprint.Area.Area}
use Rattle.cs_ir.specs.Resources.{NameTheSame}
use Rattle.cs_rwset.specs.Footprints.{is_among, is_of_one, places_holding}

-- the elements of a list that is longer by one
pub contains_first : {X : Type 0} (x : X) (xs : List X) → Contains (x ∷ xs) x
contains_first x xs = (zero, omega arith, refl)

pub contains_rest : {X : Type 0} (x y : X) (xs : List X) → Contains xs y → Contains (x ∷ xs) y
contains_rest x y xs h = let l = h.1 in (suc h.0, omega arith, h.2)

pub contains_cases : {X : Type 0} (x y : X) (xs : List X) → Contains (x ∷ xs) y → (x ≡ y) ⊎ Contains xs y
contains_cases {X} x y xs h = at h.0 h.1 h.2
  where
    at : (k : ℕ) → k < length (x ∷ xs) → get_or (x ∷ xs) k y ≡ y → (x ≡ y) ⊎ Contains xs y
    at zero l e = inl e
    at (suc k) l e = inr (k, omega arith, e)

pub contains_none : {X : Type 0} (y : X) → Contains [] y → ⊥
contains_none y h = let l = h.1 in omega arith

-- membership tests of resources agree with membership
pub among_contains : (rs : List Res) (r : Res) → is_among rs r ≡ true → Contains rs r
among_contains [] r h = absurd cc
among_contains (x ∷ rs) r h =
    ⊎_elim (λ e. subst (λ y. Contains (y ∷ rs) r) (same_res_is r x e) (contains_first r rs))
    (λ t. contains_rest x r rs (among_contains rs r t)) (or_cases (same_res r x) (is_among rs r) h)

pub contains_among : (rs : List Res) (r : Res) → Contains rs r → is_among rs r ≡ true
contains_among [] r h = absurd (contains_none r h)
contains_among (x ∷ rs) r h =
    ⊎_elim (λ e. or_left (same_res r x) (is_among rs r) (subst (λ y. same_res r y ≡ true) (sym e) (same_res_here r)))
    (λ t. or_right (same_res r x) (is_among rs r) (contains_among rs r t)) (contains_cases x r rs h)

-- two tests are equal if each implies the other
pub same_tests : (b c : Bool) → (b ≡ true → c ≡ true) → (c ≡ true → b ≡ true) → b ≡ c
same_tests true c to from = sym (to refl)
same_tests false true to from = from refl
same_tests false false to from = refl

-- lists that name the same resources pass the same membership tests
pub among_alike : (xs ys : List Res) → NameTheSame xs ys → (r : Res) → is_among xs r ≡ is_among ys r
among_alike xs ys same r =
    same_tests (is_among xs r) (is_among ys r) (λ h. contains_among ys r ((same r).0 (among_contains xs r h)))
    (λ h. contains_among xs r ((same r).1 (among_contains ys r h)))

-- the elements that pass a test
module _ {X : Type 0} (test : X → Bool) where
  pub filter_contains : (xs : List X) (x : X) → Contains (filter test xs) x → Contains xs x × (test x ≡ true)
  filter_contains [] x h = absurd (contains_none x h)
  filter_contains (y ∷ xs) x h =
      cond_both (test y) (y ∷ filter test xs) (filter test xs)
      (λ l. Contains l x → Contains (y ∷ xs) x × (test x ≡ true)) (λ e k. ⊎_elim (λ same. (
        subst (λ z. Contains (z ∷ xs) x) (sym same) (contains_first x xs),
        subst (λ z. test z ≡ true) same e,
      ))
      (λ t. let later = filter_contains xs x t in (contains_rest y x xs later.0, later.1))
      (contains_cases y x (filter test xs) k))
      (λ e k. let later = filter_contains xs x k in (contains_rest y x xs later.0, later.1)) h

  pub contains_filter : (xs : List X) (x : X) → Contains xs x → test x ≡ true → Contains (filter test xs) x
  contains_filter [] x h e = absurd (contains_none x h)
  contains_filter (y ∷ xs) x h e =
      cond_both (test y) (y ∷ filter test xs) (filter test xs) (λ l. Contains l x)
      (λ t. ⊎_elim (λ same. subst (λ z. Contains (z ∷ filter test xs) x) (sym same) (contains_first x (filter test xs)))
      (λ later. contains_rest y x (filter test xs) (contains_filter xs x later e)) (contains_cases y x xs h))
      (λ f. ⊎_elim (λ same. absurd (let g : test x ≡ false = subst (λ z. test z ≡ false) same f in cc))
      (λ later. contains_filter xs x later e) (contains_cases y x xs h))

-- the elements of a mapped list
pub map_contains : {X Y : Type 0} (f : X → Y) (xs : List X) (y : Y) → Contains (map f xs) y
    → (x : X) × Contains xs x × (f x ≡ y)
map_contains f [] y h = absurd (contains_none y h)
map_contains f (x ∷ xs) y h =
    ⊎_elim (λ same. (x, contains_first x xs, same))
    (λ t. let later = map_contains f xs y t in (later.0, contains_rest x later.0 xs later.1, later.2))
    (contains_cases (f x) y (map f xs) h)

pub contains_map : {X Y : Type 0} (f : X → Y) (xs : List X) (x : X) → Contains xs x → Contains (map f xs) (f x)
contains_map f [] x h = absurd (contains_none x h)
contains_map f (y ∷ xs) x h =
    ⊎_elim (λ same. subst (λ z. Contains (f z ∷ map f xs) (f x)) (sym same) (contains_first (f x) (map f xs)))
    (λ t. contains_rest (f y) (f x) (map f xs) (contains_map f xs x t)) (contains_cases y x xs h)

-- the numbers below n
pub range_contains : (n x : ℕ) → Contains (range_with_len 0 n) x → x < n
range_contains n x h =
    let l : h.0 < n = let a = h.1 in let b = length-range_with_len 0 n in omega arith in
    let e = get_or-range_with_len 0 n h.0 x l in let f = h.2 in omega (arith, e, f)

pub contains_range : (n x : ℕ) → x < n → Contains (range_with_len 0 n) x
contains_range n x l = let long = length-range_with_len 0 n in let e =
    get_or-range_with_len 0 n x x l in (x, omega (arith, long), omega (arith, e))

pub range_ascends : (n : ℕ) → IsStrictlyIncreasing (range_with_len 0 n)
range_ascends n k l =
    let long = length-range_with_len 0 n in
    let a = get_or-range_with_len 0 n k 0 (omega (arith, long)) in
    let b = get_or-range_with_len 0 n (k + 1) 0 (omega (arith, long)) in
    omega (arith, a, b)

pub one_of_is : (rs : List Res) (o : Option Area) → is_of_one rs o ≡ true
    → (a : Area) × (o ≡ Some a) × (is_among rs a.res ≡ true)
one_of_is rs None h = absurd cc
one_of_is rs (Some a) h = (a, refl, h)

-- a place is listed if and only if its area belongs to one of the resources
pub places_exact : (areas : List Area) (rs : List Res) (place : ℕ) → Contains (places_holding areas rs) place
    → (r : Res) × Contains rs r × HasPlace areas r place
places_exact areas rs place h =
    let passed = filter_contains (λ p. is_of_one rs (slice_get areas p)) (range_with_len 0 (length areas)) place h in
    let area = one_of_is rs (slice_get areas place) passed.1 in
    (area.0.res, among_contains rs area.0.res area.2, (area.0, area.1, refl))

pub exact_places : (areas : List Area) (rs : List Res) (place : ℕ) (r : Res) → Contains rs r → HasPlace areas r place
    → Contains (places_holding areas rs) place
exact_places areas rs place r c h =
    contains_filter (λ p. is_of_one rs (slice_get areas p)) (range_with_len 0 (length areas)) place
    (contains_range (length areas) place (slice_get_within areas place h.0 h.1))
    (subst (λ o. is_of_one rs o ≡ true) (sym h.1) (contains_among rs h.0.res (subst (λ x. Contains rs x) (sym h.2) c)))

pub places_ascend : (areas : List Area) (rs : List Res) → IsStrictlyIncreasing (places_holding areas rs)
places_ascend areas rs =
    IsStrictlyIncreasing-filter (λ p. is_of_one rs (slice_get areas p)) (range_with_len 0 (length areas))
    (range_ascends (length areas))

pub places_within_areas : (areas : List Area) (rs : List Res) (place : ℕ) → Contains (places_holding areas rs) place
    → place < length areas
places_within_areas areas rs place h = let e = places_exact areas rs place h in slice_get_within areas place e.2.0 e.2.1

-- places of resources are also places of a larger list of resources
pub places_of_more : (areas : List Area) (rs more : List Res) (place : ℕ)
    → ((r : Res) → Contains rs r → Contains more r) → Contains (places_holding areas rs) place
    → Contains (places_holding areas more) place
places_of_more areas rs more place up h =
    let e = places_exact areas rs place h in exact_places areas more place e.0 (up e.0 e.1) e.2

-- resources listed in another order, or repeatedly, have the same places
pub places_alike : (areas : List Area) (xs ys : List Res) → NameTheSame xs ys
    → places_holding areas xs ≡ places_holding areas ys
places_alike areas xs ys same =
    ap (λ test. filter test (range_with_len 0 (length areas))) (λ i place. one_alike (slice_get areas place) i)
  where
    one_alike : (o : Option Area) → is_of_one xs o ≡ is_of_one ys o
    one_alike None = refl
    one_alike (Some area) = among_alike xs ys same area.res
