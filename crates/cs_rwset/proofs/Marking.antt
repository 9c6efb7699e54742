-- Setting marks one by one.
use Rattle.std.proofs.Common.{◌≡◌, ◌<◌, ◌≤◌, ◌+◌, ◌++◌, ℕ, zero, suc, List, [], ◌∷◌, length, get_or, set, take, drop}
use Rattle.std.proofs.Common.{slice_get, replicate, Some, Bool, true, false, ◌||◌, refl, sym, ◌∙◌, ap, subst, arith}
use Rattle.std.specs.List.{filter, range_with_len}
use Rattle.std.proofs.lemmas.List.{append-nil, append_assoc, get_or_default, length-map}
use Rattle.cs_base.specs.{declared.spaces.Spaces.Spaces, Rates.same_res, declared.resource.Res.Res}
use Rattle.cs_ir.proofs.Naming.{flat_next}
use Rattle.cs_ir.specs.{Resources.NameTheSame, declared.touches.Touch.Touch}
use Rattle.std.proofs.lemmas.{List.Elements.filter-append, List.Folds.list_any-append, List.Sums.count_by_more_yes}
use Rattle.std.proofs.lemmas.{List.Sums.count_by_more_no, Option.get_or_from_slice_get, Option.slice_get_within}
use Rattle.std.proofs.lemmas.Bool.{cond-true, cond-false, false_from_ne_true}
use Rattle.cs_base.proofs.Rates.{same_res_is, same_res_here}
use Rattle.cs_cells.specs.{Areas.HasPlace, Areas.IsLaid, declared.footprint.Area.Area}
use Rattle.cs_rwset.specs.Footprints.{is_among, is_of_one, is_place, place_count, places_holding, stock_of}
use Rattle.cs_words.specs.declared.catalogue.Space.{Space}
use Rattle.cs_ir.specs.Touched.{covers, named, resources}
use Rattle.cs_rwset.proofs.{Covering.covers_named, Placed.among_alike}
use Rattle.cs_rwset.specs.inner.Marks.{marked, marked_by, marks_of}

pub or_here : (p q : Bool) → q ≡ true → true ≡ (p || q)
or_here true q e = refl
or_here false q e = sym e

pub or_not : (p q : Bool) → q ≡ false → p ≡ (p || q)
or_not true q e = refl
or_not false q e = sym e

-- tests that agree on each area produce the same marks
pub same_marks : (P Q : Res → Bool) (areas : List Area)
    → ((place : ℕ) (a : Area) → slice_get areas place ≡ Some a → P a.res ≡ Q a.res)
    → marked_by P areas ≡ marked_by Q areas
same_marks P Q [] h = refl
same_marks P Q (a ∷ areas) h = λ i. h 0 a refl i ∷ same_marks P Q areas (λ k b e. h (suc k) b e) i

passes_of : (Q : Res → Bool) (b : Bool) (x a : Area) → Some x ≡ Some a → Q a.res ≡ b → Q x.res ≡ b
passes_of Q b x a e q = cc

module _ (P Q : Res → Bool) where
  -- setting one mark, if only one area passes the second test
  pub one_mark : (areas : List Area) (place : ℕ) → place < length areas
      → ((a : Area) → slice_get areas place ≡ Some a → Q a.res ≡ true)
      → ((k : ℕ) (a : Area) → (k ≡ place → ⊥) → slice_get areas k ≡ Some a → Q a.res ≡ false)
      → set (marked_by P areas) place true ≡ marked_by (λ r. P r || Q r) areas
  one_mark [] place l here others = absurd (omega arith)
  one_mark (a ∷ areas) zero l here others =
      λ i. or_here (P a.res) (Q a.res) (here a refl) i ∷ same_marks P (λ r. P r || Q r) areas
      (λ k b e. or_not (P b.res) (Q b.res) (others (suc k) b (λ s. omega (arith, s)) e)) i
  one_mark (a ∷ areas) (suc place) l here others =
      λ i. or_not (P a.res) (Q a.res) (others 0 a (λ s. omega (arith, s)) refl) i
      ∷ one_mark areas place (omega arith) here (λ k b n e. others (suc k) b (λ s. n (omega (arith, s))) e) i

  -- the first n areas are marked by either test, the remaining ones only by the first
  abbrev pub half : ℕ → List Area → List Bool
  half zero areas = marked_by P areas
  half (suc n) [] = []
  half (suc n) (a ∷ areas) = (P a.res || Q a.res) ∷ half n areas

  half_set : (n : ℕ) (areas : List Area) (a : Area) → slice_get areas n ≡ Some a → Q a.res ≡ true
      → set (half n areas) n true ≡ half (suc n) areas
  half_set n [] a e q = absurd cc
  half_set zero (x ∷ areas) a e q = λ i. or_here (P x.res) (Q x.res) (passes_of Q true x a e q) i ∷ marked_by P areas
  half_set (suc n) (x ∷ areas) a e q = λ i. (P x.res || Q x.res) ∷ half_set n areas a e q i

  half_kept : (n : ℕ) (areas : List Area) (a : Area) → slice_get areas n ≡ Some a → Q a.res ≡ false
      → half n areas ≡ half (suc n) areas
  half_kept n [] a e q = absurd cc
  half_kept zero (x ∷ areas) a e q = λ i. or_not (P x.res) (Q x.res) (passes_of Q false x a e q) i ∷ marked_by P areas
  half_kept (suc n) (x ∷ areas) a e q = λ i. (P x.res || Q x.res) ∷ half_kept n areas a e q i

  -- one more area is tested
  pub half_more : (n : ℕ) (areas : List Area) (a : Area) → slice_get areas n ≡ Some a → Q a.res ≡ true
      → set (half n areas) n true ≡ half (n + 1) areas
  half_more n areas a e q = let on : suc n ≡ n + 1 = omega arith in half_set n areas a e q ∙ ap (λ k. half k areas) on

  pub half_same : (n : ℕ) (areas : List Area) (a : Area) → slice_get areas n ≡ Some a → Q a.res ≡ false
      → half n areas ≡ half (n + 1) areas
  half_same n areas a e q = let on : suc n ≡ n + 1 = omega arith in half_kept n areas a e q ∙ ap (λ k. half k areas) on

  pub half_all : (n : ℕ) (areas : List Area) → length areas ≤ n → half n areas ≡ marked_by (λ r. P r || Q r) areas
  half_all zero [] l = refl
  half_all (suc n) [] l = refl
  half_all zero (a ∷ areas) l = absurd (omega arith)
  half_all (suc n) (a ∷ areas) l = λ i. (P a.res || Q a.res) ∷ half_all n areas (omega arith) i

-- the mark of a resource that has an area, and of a resource that has none
pub mark_placed : (areas : List Area) (g : Res) (place : ℕ) (P : Res → Bool) → IsLaid areas → HasPlace areas g place
    → set (marked_by P areas) place true ≡ marked_by (λ r. P r || same_res r g) areas
mark_placed areas g place P laid h =
    one_mark P (λ r. same_res r g) areas place (slice_get_within areas place h.0 h.1)
    (λ a e. passes_of (λ r. same_res r g) true a h.0 (sym e ∙ h.1)
    (subst (λ r. same_res r g ≡ true) (sym h.2) (same_res_here g)))
    (λ k a n e. false_from_ne_true (same_res a.res g) (λ t. n (laid.apart k place g (a, e, same_res_is a.res g t) h)))

pub mark_unplaced : (areas : List Area) (g : Res) (P : Res → Bool) → ((place : ℕ) → HasPlace areas g place → ⊥)
    → marked_by P areas ≡ marked_by (λ r. P r || same_res r g) areas
mark_unplaced areas g P none =
    same_marks P (λ r. P r || same_res r g) areas (λ k a e. or_not (P a.res) (same_res a.res g)
    (false_from_ne_true (same_res a.res g) (λ t. none k (a, e, same_res_is a.res g t))))

-- the marks of more resources
pub more_marks : (areas : List Area) (rs xs : List Res) (Q : Res → Bool)
    → ((place : ℕ) (a : Area) → slice_get areas place ≡ Some a → Q a.res ≡ is_among xs a.res)
    → marked_by (λ r. is_among rs r || Q r) areas ≡ marks_of areas (rs ++ xs)
more_marks areas rs xs Q h =
    same_marks (λ r. is_among rs r || Q r) (is_among (rs ++ xs)) areas
    (λ place a e. ap (λ b. is_among rs a.res || b) (h place a e) ∙ sym (list_any-append (same_res a.res) rs xs))

-- a touch marks the areas of its resources
pub touch_marks : (areas : List Area) (rs : List Res) (spaces : Spaces) (t : Touch) → spaces ≡ (stock_of areas).spaces
    → marked_by (λ r. is_among rs r || covers spaces t r) areas ≡ marks_of areas (rs ++ resources (stock_of areas) t)
touch_marks areas rs spaces t sized =
    more_marks areas rs (resources (stock_of areas) t) (covers spaces t)
    (λ place a e. ap (λ s. covers s t a.res) sized ∙ covers_named areas place a.res (a, e, refl) t)

-- resources listed in another order, or repeatedly, have the same marks
pub alike_marks : (areas : List Area) (xs ys : List Res) → NameTheSame xs ys → marks_of areas xs ≡ marks_of areas ys
alike_marks areas xs ys same = same_marks (is_among xs) (is_among ys) areas (λ k a e. among_alike xs ys same a.res)

-- before the first op no area is marked
pub none_marked : (areas : List Area) (n : ℕ) → n ≡ length areas → replicate n false ≡ marks_of areas []
none_marked [] n e = ap (λ k. replicate k false) e
none_marked (a ∷ areas) n e = ap (λ k. replicate k false) e ∙ (λ i. false ∷ none_marked areas (length areas) refl i)

-- marks that replace the same number of marks
take_front : (xs ys : List Bool) → take (length xs) (xs ++ ys) ≡ xs
take_front [] [] = refl
take_front [] (y ∷ ys) = refl
take_front (x ∷ xs) ys = λ i. x ∷ take_front xs ys i

pub rewritten : (areas : List Area) (rs more : List Res) (n : ℕ) (old new : List Bool) → old ≡ marks_of areas rs
    → n ≡ length old → new ≡ marks_of areas more → take n (new ++ drop (length new) old) ≡ marks_of areas more
rewritten areas rs more n old new was long is =
    let a = ap length was ∙ length-map areas (λ a. is_among rs a.res) in
    let b = ap length is ∙ length-map areas (λ a. is_among more a.res) in
    let e : n ≡ length new = omega (arith, a, b, long) in
    ap (λ k. take k (new ++ drop (length new) old)) e ∙ take_front new (drop (length new) old) ∙ is

-- one more touch
pub touch_step : (areas : List Area) (rs : List Res) (touches : List Touch) (i : ℕ) (d : Touch) → i < length touches
    → marks_of areas
    ((rs ++ named (stock_of areas) (take i touches)) ++ resources (stock_of areas) (get_or touches i d))
    ≡ marks_of areas (rs ++ named (stock_of areas) (take (i + 1) touches))
touch_step areas rs touches i d low =
    let stock = stock_of areas in
    let t = get_or touches i d in
    ap (marks_of areas) (append_assoc rs (named stock (take i touches)) (resources stock t)
    ∙ ap (λ l. rs ++ l) (flat_next (resources stock) touches i t low (get_or_default touches i d t low)))

-- one more area is counted, or isn't
pub counted : (areas : List Area) (s : Space) (i : ℕ) (a : Area) → slice_get areas i ≡ Some a → is_place s a.res ≡ true
    → place_count (take (i + 1) areas) s ≡ place_count (take i areas) s + 1
counted areas s i a e p =
    count_by_more_yes (λ b. is_place s b.res) areas i a (slice_get_within areas i a e)
    (ap (λ b. is_place s b.res) (get_or_from_slice_get areas i a a e) ∙ p)

pub not_counted : (areas : List Area) (s : Space) (i : ℕ) (a : Area) → slice_get areas i ≡ Some a
    → is_place s a.res ≡ false → place_count (take (i + 1) areas) s ≡ place_count (take i areas) s
not_counted areas s i a e p =
    count_by_more_no (λ b. is_place s b.res) areas i a (slice_get_within areas i a e)
    (ap (λ b. is_place s b.res) (get_or_from_slice_get areas i a a e) ∙ p)

-- the places below n + 1
pub range_more : (a n j : ℕ) → a + n ≡ j → range_with_len a (suc n) ≡ range_with_len a n ++ j ∷ []
range_more a zero j e = let same : a ≡ j = omega arith in ap (λ k. k ∷ []) same
range_more a (suc n) j e = ap (λ l. a ∷ l) (range_more (a + 1) n j (omega arith))

-- the marked places below n
abbrev pub marked_below : List Bool → ℕ → List ℕ
marked_below marks n = filter (λ place. get_or marks place false) (range_with_len 0 n)

marked_next : (marks : List Bool) (n : ℕ)
    → marked_below marks (n + 1) ≡ marked_below marks n ++ filter (λ place. get_or marks place false) (n ∷ [])
marked_next marks n =
    let on : n + 1 ≡ suc n = omega arith in
    ap (marked_below marks) on ∙ ap (filter (λ place. get_or marks place false)) (range_more 0 n n (omega arith))
    ∙ filter-append (λ place. get_or marks place false) (range_with_len 0 n) (n ∷ [])

pub marked_more : (marks : List Bool) (n : ℕ) → get_or marks n false ≡ true
    → marked_below marks n ++ n ∷ [] ≡ marked_below marks (n + 1)
marked_more marks n e = sym
    (marked_next marks n ∙ ap (λ l. marked_below marks n ++ l) (cond-true (get_or marks n false) (n ∷ []) [] e))

pub marked_same : (marks : List Bool) (n : ℕ) → get_or marks n false ≡ false
    → marked_below marks n ≡ marked_below marks (n + 1)
marked_same marks n e =
    sym (marked_next marks n ∙ ap (λ l. marked_below marks n ++ l) (cond-false (get_or marks n false) (n ∷ []) [] e)
    ∙ append-nil (marked_below marks n))

-- a place is marked if and only if its area belongs to one of the resources
pub mark_at : (areas : List Area) (rs : List Res) (place : ℕ)
    → get_or (marks_of areas rs) place false ≡ is_of_one rs (slice_get areas place)
mark_at [] rs place = refl
mark_at (a ∷ areas) rs zero = refl
mark_at (a ∷ areas) rs (suc place) = mark_at areas rs place

pub marked_places_are : (areas : List Area) (rs : List Res) → marked (marks_of areas rs) ≡ places_holding areas rs
marked_places_are areas rs =
    λ i. filter (λ place. mark_at areas rs place i) (range_with_len 0 (length-map areas (λ a. is_among rs a.res) i))
