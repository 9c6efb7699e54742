-- Zones are laid out in the same way as areas.
use Rattle.std.proofs.Common.{◌≡◌, ◌+◌, ◌<◌, ◌≤◌, ℕ, zero, suc, Bool, true, false, List, [], ◌∷◌, ◌++◌, get_or, None}
use Rattle.std.proofs.Common.{nat_lt, length, Some, if◌then◌else◌, refl, sym, ◌∙◌, ap, subst, arith, ⊎_elim}
use Rattle.std.specs.List.{All}
use Rattle.std.proofs.lemmas.{List.append_assoc, List.Elements.All-cons, List.Elements.All-nil, Bool.Decides.nat_tests}
use Rattle.std.proofs.lemmas.List.Sums.{sum_by-append, sum_by-cons}
use Rattle.cs_base.specs.{declared.resource.Res.Res, Limits.most_resources, Limits.most_words}
use Rattle.cs_cells.specs.Areas.{HasPlace, IsLaid, limit_passed, word_count}
use Rattle.cs_cells.specs.declared.footprint.Area.{Area}
use Rattle.cs_cells.proofs.Laid.{at_push, laid_more, laid_none}
use Rattle.cs_rwset.specs.Zones.{AreZones}
use Rattle.cs_rwset.specs.inner.Zoning.{heads, joined, zones_from, zones_of}
use Rattle.cs_rwset.proofs.ZonesCover.{LaidFrom, laid_at_zero}
use Rattle.cs_base.specs.declared.limit.Limit.TheVariants as limit

-- ---- the same number of cells, at most as many zones as areas, none empty

zones_words : (z : Area) (areas : List Area) (begins : List Bool) → length begins ≡ length areas
    → word_count (zones_from z areas begins) ≡ z.length + word_count areas
zones_words z [] begins e = sum_by-cons (λ x. x.length) z []
zones_words z (x ∷ areas) [] e = absurd (omega (arith, e))
zones_words z (x ∷ areas) (true ∷ begins) e =
    sum_by-cons (λ w. w.length) z (zones_from x areas begins)
    ∙ ap (λ n. z.length + n) (zones_words x areas begins (omega (arith, e)) ∙ sym (sum_by-cons (λ w. w.length) x areas))
zones_words z (x ∷ areas) (false ∷ begins) e =
    let rest : word_count (zones_from (joined z x) areas begins) ≡ z.length + x.length + word_count areas =
    zones_words (joined z x) areas begins (omega (arith, e)) in
    let front : word_count (x ∷ areas) ≡ x.length + word_count areas = sum_by-cons (λ w. w.length) x areas in
    omega (arith, rest, front)

zones_few : (z : Area) (areas : List Area) (begins : List Bool)
    → length (zones_from z areas begins) ≤ suc (length areas)
zones_few z [] begins = omega arith
zones_few z (x ∷ areas) [] = omega arith
zones_few z (x ∷ areas) (true ∷ begins) = let rest = zones_few x areas begins in omega (arith, rest)
zones_few z (x ∷ areas) (false ∷ begins) = let rest = zones_few (joined z x) areas begins in omega (arith, rest)

abbrev Some_cells : Area → Type 0
Some_cells x = 0 < x.length

all_first : (x : Area) (areas : List Area) → All Some_cells (x ∷ areas) → Some_cells x
all_first x areas h = h 0 x (omega arith)

all_rest : (x : Area) (areas : List Area) → All Some_cells (x ∷ areas) → All Some_cells areas
all_rest x areas h k d low = h (suc k) d (omega (arith, low))

zones_some : (z : Area) (areas : List Area) (begins : List Bool) → Some_cells z → All Some_cells areas
    → All Some_cells (zones_from z areas begins)
zones_some z [] begins some all = All-cons Some_cells z [] some (All-nil Some_cells)
zones_some z (x ∷ areas) [] some all = All-cons Some_cells z [] some (All-nil Some_cells)
zones_some z (x ∷ areas) (true ∷ begins) some all =
    All-cons Some_cells z (zones_from x areas begins) some
    (zones_some x areas begins (all_first x areas all) (all_rest x areas all))
zones_some z (x ∷ areas) (false ∷ begins) some all =
    zones_some (joined z x) areas begins (omega (arith, some)) (all_rest x areas all)

-- ---- one after another, each with its own resource

-- no area belongs to a resource
abbrev Lacks : List Area → Res → Type 0
Lacks areas r = (p : ℕ) → ¬ (HasPlace areas r p)

-- all areas have different resources, and none of these occurs in another list
abbrev AreNew : List Area → List Area → Type 0
AreNew before [] = Unit {0}
AreNew before (x ∷ areas) = Lacks before x.res × Lacks areas x.res × AreNew before areas

are_new : (areas : List Area) → ((p q : ℕ) (r : Res) → HasPlace areas r p → HasPlace areas r q → p ≡ q)
    → AreNew [] areas
are_new [] apart = tt
are_new (x ∷ areas) apart = (
  λ p h. (let at = h.1 in absurd cc),
  λ p h. (let e : zero ≡ suc p = apart zero (suc p) x.res (x, refl, refl) (h.0, h.1, h.2) in omega (arith, e)),
  are_new areas (λ p q r h k. let e : suc p ≡ suc q =
      apart (suc p) (suc q) r (h.0, h.1, h.2) (k.0, k.1, k.2) in omega (arith, e)),
)

-- one more area is added before, whose resource no other area has
new_before : (before : List Area) (z : Area) (areas : List Area) → Lacks areas z.res → AreNew before areas
    → AreNew (before ++ z ∷ []) areas
new_before before z [] lacks new = tt
new_before before z (x ∷ areas) lacks new = (
  λ p h. ⊎_elim (λ front. new.0 p (h.0, front.0, h.2)) (λ last. lacks zero (x, refl, sym h.2 ∙ ap (λ w. w.res) last.1))
      (at_push before z p h.0 h.1),
  new.1,
  new_before before z areas (λ p h. lacks (suc p) (h.0, h.1, h.2)) new.2,
)

zones_laid : (done : List Area) (z : Area) (areas : List Area) (begins : List Bool) → IsLaid done
    → z.first ≡ word_count done → LaidFrom (z.first + z.length) areas → Lacks done z.res → Lacks areas z.res
    → AreNew done areas → IsLaid (done ++ zones_from z areas begins)
zones_laid done z [] begins laid first follows new other news = laid_more done z laid first new
zones_laid done z (x ∷ areas) [] laid first follows new other news = laid_more done z laid first new
zones_laid done z (x ∷ areas) (true ∷ begins) laid first follows new other news =
    let words : word_count (done ++ z ∷ []) ≡ word_count done + z.length =
    (let both = sum_by-append (λ w. w.length) done (z ∷ []) in
    let one : word_count (z ∷ []) ≡ z.length + 0 = sum_by-cons (λ w. w.length) z [] in omega (arith, both, one)) in
    let here : x.first ≡ z.first + z.length = follows.0 in
    subst IsLaid (append_assoc done (z ∷ []) (zones_from x areas begins))
    (zones_laid (done ++ z ∷ []) x areas begins (laid_more done z laid first new) (omega (arith, words, here, first))
    (subst (λ n. LaidFrom (n + x.length) areas) (sym here) follows.1)
    (new_before done z (x ∷ areas) other news).0 news.1 (new_before done z (x ∷ areas) other news).2)
zones_laid done z (x ∷ areas) (false ∷ begins) laid first follows new other news =
    let on : z.first + z.length + x.length ≡ z.first + (z.length + x.length) = omega arith in
    zones_laid done (joined z x) areas begins laid first (subst (λ n. LaidFrom n areas) on follows.1) new
    (λ p h. other (suc p) (h.0, h.1, h.2)) news.2

-- ---- all properties together

pub are_zones : (areas : List Area) (begins : List Bool) → IsLaid areas → length begins ≡ length areas
    → AreZones areas (zones_of areas begins)
are_zones [] begins laid e = record { laid = laid_none; words = refl; few = omega arith; some = λ all. all }
are_zones (x ∷ areas) [] laid e = absurd (omega (arith, e))
are_zones (x ∷ areas) (b ∷ begins) laid e =
    let follows = laid_at_zero (x ∷ areas) laid in
    let new = are_new (x ∷ areas) laid.apart in
    record {
      laid = zones_laid [] x areas begins laid_none follows.0
          (subst (λ n. LaidFrom (n + x.length) areas) (sym follows.0) follows.1) new.0 new.1 new.2;
      words = zones_words x areas begins (omega (arith, e)) ∙ sym (sum_by-cons (λ w. w.length) x areas);
      few = zones_few x areas begins;
      some = λ all. zones_some x areas begins (all_first x areas all) (all_rest x areas all);
    }

-- a layout within its limits
both_within : {X : Type 0} (a b : Bool) (x y : X) → (if a then Some x else (if b then Some y else None)) ≡ None
    → (a ≡ false) × (b ≡ false)
both_within false false x y h = (refl, refl)
both_within a b x y h = absurd cc

pub within_limits : (areas : List Area) → limit_passed areas ≡ None
    → (nat_lt most_resources (length areas) ≡ false) × (nat_lt most_words (word_count areas) ≡ false)
within_limits areas none =
    both_within (nat_lt most_resources (length areas)) (nat_lt most_words (word_count areas)) _ _ none

pub zones_within : (areas zones : List Area) → AreZones areas zones → limit_passed areas ≡ None
    → limit_passed zones ≡ None
zones_within areas zones are none =
    let old = within_limits areas none in
    let few = old.0 in
    let fewer = are.few in
    let f : nat_lt most_resources (length zones) ≡ false = grind (arith, nat_tests) in
    let w : nat_lt most_words (word_count zones) ≡ false = ap (nat_lt most_words) are.words ∙ old.1 in
    λ i. if f i then Some (record { limit = limit.Resources; line = 0 })
    else (if w i then Some (record { limit = limit.Words; line = 0 }) else None)

-- ---- as many marks as zones

heads_long : (marks begins : List Bool) (z : Area) (areas : List Area) → length marks ≡ length areas
    → length begins ≡ length areas → suc (length (heads marks begins)) ≡ length (zones_from z areas begins)
heads_long [] begins z [] e f = refl
heads_long [] begins z (x ∷ areas) e f = absurd (omega (arith, e))
heads_long (m ∷ marks) begins z [] e f = absurd (omega (arith, e))
heads_long (m ∷ marks) [] z (x ∷ areas) e f = absurd (omega (arith, f))
heads_long (m ∷ marks) (true ∷ begins) z (x ∷ areas) e f =
    ap suc (heads_long marks begins x areas (omega (arith, e)) (omega (arith, f)))
heads_long (m ∷ marks) (false ∷ begins) z (x ∷ areas) e f =
    heads_long marks begins (joined z x) areas (omega (arith, e)) (omega (arith, f))

pub zone_marks : (marks begins : List Bool) (areas : List Area) → length marks ≡ length areas
    → length begins ≡ length areas → (0 < length begins → get_or begins 0 false ≡ true)
    → length (heads marks begins) ≡ length (zones_of areas begins)
zone_marks [] begins [] e f first = refl
zone_marks [] begins (x ∷ areas) e f first = absurd (omega (arith, e))
zone_marks (m ∷ marks) begins [] e f first = absurd (omega (arith, e))
zone_marks (m ∷ marks) [] (x ∷ areas) e f first = absurd (omega (arith, f))
zone_marks (m ∷ marks) (b ∷ begins) (x ∷ areas) e f first =
    ap (λ c. length (if c then m ∷ heads marks begins else heads marks begins)) (first (omega arith))
    ∙ heads_long marks begins x areas (omega (arith, e)) (omega (arith, f))

-- marks that imply other marks still do in zones
pub heads_under : (lows highs begins : List Bool) → length lows ≡ length highs
    → ((p : ℕ) → get_or lows p false ≡ true → get_or highs p false ≡ true)
    → (p : ℕ) → get_or (heads lows begins) p false ≡ true → get_or (heads highs begins) p false ≡ true
heads_under [] highs begins e under p h = absurd (let f : get_or [] p false ≡ true = h in cc)
heads_under (l ∷ lows) [] begins e under p h = absurd (omega (arith, e))
heads_under (l ∷ lows) (k ∷ highs) [] e under p h = absurd (let f : get_or [] p false ≡ true = h in cc)
heads_under (l ∷ lows) (k ∷ highs) (true ∷ begins) e under zero h = under zero h
heads_under (l ∷ lows) (k ∷ highs) (true ∷ begins) e under (suc p) h =
    heads_under lows highs begins (omega (arith, e)) (λ q. under (suc q)) p h
heads_under (l ∷ lows) (k ∷ highs) (false ∷ begins) e under p h =
    heads_under lows highs begins (omega (arith, e)) (λ q. under (suc q)) p h
