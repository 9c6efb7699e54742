-- The area of a resource in a layout.
use Rattle.std.proofs.Common.{◌≡◌, ℕ, zero, suc, ◌+◌, ◌≤◌, Bool, true, false, List, [], ◌∷◌, length, slice_get, Option}
use Rattle.std.proofs.Common.{Some, None, nat_lt, if◌then◌else◌, refl, sym, ◌∙◌, ap, subst, arith}
use Rattle.std.proofs.lemmas.Bool.Decides.{nat_tests}
use Rattle.cs_base.specs.{Limits.most_resources, Limits.most_words, Rates.same_res, declared.resource.Res.Res}
use Rattle.cs_base.proofs.{Rates.same_res_here, Tests.by_test}
use Rattle.cs_cells.specs.Areas.{HasPlace, IsLaid, limit_passed, word_count}
use Rattle.cs_cells.specs.declared.footprint.Area.{Area}
use Rattle.cs_cells.proofs.Laid.{area_within}
use Rattle.cs_voice_meaning.specs.Placing.{area_of}
use Rattle.cs_voice_meaning.proofs.Placed.{area_at}
use Rattle.cs_base.specs.declared.limit.Limit.TheVariants as limit

-- if with a condition that is known
pub if_true : {A : Type 0} (b : Bool) (x y : A) → b ≡ true → (if b then x else y) ≡ x
if_true true x y e = refl
if_true false x y e = absurd cc

pub if_false : {A : Type 0} (b : Bool) (x y : A) → b ≡ false → (if b then x else y) ≡ y
if_false true x y e = absurd cc
if_false false x y e = refl

-- a resource with an index has an area
some_first : (areas : List Area) (g : Res) (place : ℕ) → HasPlace areas g place
    → (b : Area) × (area_of areas g ≡ Some b)
some_first [] g place h = absurd (let e = h.1 in cc)
some_first (x ∷ areas) g zero h =
    let same : x.res ≡ g = let e = h.1 in let f = h.2 in cc in (
      x,
      if_true (same_res x.res g) (Some x) (area_of areas g)
          (subst (λ r. same_res r g ≡ true) (sym same) (same_res_here g)),
    )
some_first (x ∷ areas) g (suc place) h =
    by_test (same_res x.res g) (λ here. (x, if_true (same_res x.res g) (Some x) (area_of areas g) here))
    (λ later. let rest = some_first areas g place
    h in (rest.0, if_false (same_res x.res g) (Some x) (area_of areas g) later ∙ rest.1))

at_one : (areas : List Area) (p q : ℕ) (a b : Area) → p ≡ q → slice_get areas p ≡ Some a → slice_get areas q ≡ Some b
    → a ≡ b
at_one areas p q a b e f g = let h : slice_get areas p ≡ slice_get areas q = ap (slice_get areas) e in cc

-- the area at a resource's index is the resource's
pub found : (areas : List Area) (g : Res) (place : ℕ) (a : Area) → IsLaid areas → HasPlace areas g place
    → slice_get areas place ≡ Some a → Some a ≡ area_of areas g
found areas g place a laid h at =
    let first = some_first areas g place h in
    let there = area_at areas g first.0 first.1 in
    let one : place ≡ there.0 = laid.apart place there.0 g h (first.0, there.1, there.2) in
    ap Some (at_one areas place there.0 a first.0 one at there.1) ∙ sym first.1

pub not_found : (areas : List Area) (g : Res) → ((place : ℕ) → ¬ (HasPlace areas g place)) → None ≡ area_of areas g
not_found areas g none = by (area_of areas g) refl
  where
    by : (o : Option Area) → area_of areas g ≡ o → None ≡ area_of areas g
    by None e = sym e
    by (Some b) e = absurd (let there = area_at areas g b e in none there.0 (b, there.1, there.2))

-- an area of a layout belongs to its resource
pub own : (areas : List Area) (place : ℕ) (a : Area) → IsLaid areas → slice_get areas place ≡ Some a
    → area_of areas a.res ≡ Some a
own areas place a laid at = sym (found areas a.res place a laid (a, at, refl) at)

-- a layout within the limits has at most the limit's number of cells
no_limit : {A : Type 0} (a b : Bool) (x y : A) → (if a then Some x else (if b then Some y else None)) ≡ None → b ≡ false
no_limit true b x y e = absurd cc
no_limit false true x y e = absurd cc
no_limit false false x y e = refl

not_less : (m n : ℕ) → nat_lt m n ≡ false → n ≤ m
not_less m n h = grind (arith, nat_tests)

pub small : (areas : List Area) (place : ℕ) (a : Area) → IsLaid areas → limit_passed areas ≡ None
    → slice_get areas place ≡ Some a → a.first + a.length ≤ 65536
small areas place a laid none at =
    let within = area_within areas place a laid at in
    let words = not_less most_words (word_count areas)
    (no_limit (nat_lt most_resources (length areas)) (nat_lt most_words (word_count areas))
    (record { limit = limit.Resources; line = 0 }) (record { limit = limit.Words; line = 0 }) none) in
    omega (arith, within, words)
