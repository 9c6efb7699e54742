-- Footprints over zones are the footprints of codes.
use Rattle.std.proofs.Common.{◌≡◌, ◌<◌, ℕ, suc, Bool, true, false, List, get_or, length, slice_get, Option, sym, ◌∙◌}
use Rattle.std.proofs.Common.{◌≤◌, None, ap, subst, arith}
use Rattle.std.proofs.lemmas.{Bool.Decides.nat_tests, List.length-map, List.Kept.IsStrictlyIncreasing-filter}
use Rattle.cs_base.specs.{Limits.most_resources, declared.resource.Res.Res}
use Rattle.std.specs.{List.Contains, List.range_with_len, List.Sorted.IsStrictlyIncreasing}
use Rattle.cs_cells.specs.{Areas.IsLaid, Areas.limit_passed, Cells.covers, declared.footprint.Area.Area}
use Rattle.cs_cells.specs.declared.footprint.Footprint.{Footprint}
use Rattle.cs_ir.specs.{Resources.ops_use, Resources.ops_write, declared.op.Code.Code}
use Rattle.cs_rwset.specs.Footprints.{is_among, is_of_one, places_holding, stock_of}
use Rattle.cs_rwset.specs.{Zones.IsFootOver, declared.code.Marks.Marks, inner.Marks.marked, inner.Marks.marks_of}
use Rattle.cs_rwset.specs.inner.Zoning.{AreBegins, AreFew, AreKept, AreMarks, AreMarksOf, Stay, heads, zones_of}
use Rattle.cs_rwset.proofs.{Covering.ops_written_is_used, Marking.mark_at, Marking.marked_places_are, Placed.one_of_is}
use Rattle.cs_rwset.proofs.{Placed.range_ascends, Placed.range_contains, ZonesCover.zones_cover}
use Rattle.cs_rwset.proofs.Placed.{among_contains, contains_among, contains_filter, contains_range, filter_contains}
use Rattle.cs_rwset.proofs.ZonesLaid.{heads_under, within_limits, zone_marks}

-- a place whose mark is set is among the marked places
contains_marked : (marks : List Bool) (p : ℕ) → p < length marks → get_or marks p false ≡ true
    → Contains (marked marks) p
contains_marked marks p low h =
    contains_filter (λ q. get_or marks q false) (range_with_len 0 (length marks)) p
    (contains_range (length marks) p low) h

marked_contains : (marks : List Bool) (p : ℕ) → Contains (marked marks) p
    → (p < length marks) × (get_or marks p false ≡ true)
marked_contains marks p h =
    let f = filter_contains (λ q. get_or marks q false) (range_with_len 0 (length marks)) p h in
    (range_contains (length marks) p f.0, f.1)

marked_ascends : (marks : List Bool) → IsStrictlyIncreasing (marked marks)
marked_ascends marks =
    IsStrictlyIncreasing-filter (λ q. get_or marks q false) (range_with_len 0 (length marks))
    (range_ascends (length marks))

-- there are as many marks as areas
pub marks_many : (areas : List Area) (perf : Code) (m : Marks) → AreMarksOf areas perf m → AreMarks areas m
marks_many areas perf m is = (
  ap length is.uses ∙ length-map areas (λ a. is_among (ops_use (stock_of areas) perf.ops) a.res),
  ap length is.writes ∙ length-map areas (λ a. is_among (ops_write (stock_of areas) perf.ops) a.res),
)

module _ (areas : List Area) (laid : IsLaid areas) (perf : Code) (m : Marks) (begins : List Bool) (foot : Footprint)
    (is : AreMarksOf areas perf m) (long : length begins ≡ length areas)
    (first : 0 < length areas → get_or begins 0 false ≡ true)
    (stays : (p : ℕ) → suc p < length areas → get_or begins (suc p) false ≡ false → Stay m p (suc p))
    (uses : foot.uses ≡ marked (heads m.uses.items begins))
    (writes : foot.writes ≡ marked (heads m.writes.items begins)) where
  begun : 0 < length begins → get_or begins 0 false ≡ true
  begun low = first (omega (arith, low, long))

  used_many : length m.uses.items ≡ length areas
  used_many = (marks_many areas perf m is).0

  written_many : length m.writes.items ≡ length areas
  written_many = (marks_many areas perf m is).1

  covers_same : (marks : List Bool) (rs : List Res) (places : List ℕ) → marks ≡ marks_of areas rs
      → AreKept begins marks → places ≡ marked (heads marks begins) → (a : ℕ)
      → covers (zones_of areas begins) places a ≡ covers areas (places_holding areas rs) a
  covers_same marks rs places e kept p a =
      ap (λ l. covers (zones_of areas begins) l a) p
      ∙ zones_cover a marks begins areas laid (ap length e ∙ length-map areas (λ a. is_among rs a.res)) long begun kept
      ∙ ap (λ l. covers areas (marked l) a) e ∙ ap (λ l. covers areas l a) (marked_places_are areas rs)

  of_more : (o : Option Area) → is_of_one (ops_write (stock_of areas) perf.ops) o ≡ true
      → is_of_one (ops_use (stock_of areas) perf.ops) o ≡ true
  of_more o h =
      let one = one_of_is (ops_write (stock_of areas) perf.ops) o h in
      subst (λ q. is_of_one (ops_use (stock_of areas) perf.ops) q ≡ true) (sym one.1)
      (contains_among (ops_use (stock_of areas) perf.ops) one.0.res
      (ops_written_is_used (stock_of areas) perf.ops one.0.res
      (among_contains (ops_write (stock_of areas) perf.ops) one.0.res one.2)))

  under : (p : ℕ) → get_or m.writes.items p false ≡ true → get_or m.uses.items p false ≡ true
  under p h =
      ap (λ l. get_or l p false) is.uses ∙ mark_at areas (ops_use (stock_of areas) perf.ops) p
      ∙ of_more (slice_get areas p)
      (sym (mark_at areas (ops_write (stock_of areas) perf.ops) p) ∙ ap (λ l. get_or l p false) (sym is.writes) ∙ h)

  zones_used : length (heads m.uses.items begins) ≡ length (zones_of areas begins)
  zones_used = zone_marks m.uses.items begins areas used_many long begun

  zones_written : length (heads m.writes.items begins) ≡ length (zones_of areas begins)
  zones_written = zone_marks m.writes.items begins areas written_many long begun

  pub foot_is : IsFootOver areas (zones_of areas begins) perf foot
  foot_is = record {
    uses = covers_same m.uses.items (ops_use (stock_of areas) perf.ops) foot.uses is.uses
        (λ p low same. (stays p (omega (arith, low, used_many)) same).0) uses;
    writes = covers_same m.writes.items (ops_write (stock_of areas) perf.ops) foot.writes is.writes
        (λ p low same. (stays p (omega (arith, low, written_many)) same).1) writes;
    places = record {
      uses = subst IsStrictlyIncreasing (sym uses) (marked_ascends (heads m.uses.items begins));
      writes = subst IsStrictlyIncreasing (sym writes) (marked_ascends (heads m.writes.items begins));
      within = λ r h. (let c = marked_contains (heads m.uses.items begins) r (subst (λ l. Contains l r) uses h) in
          let low = c.0 in omega (arith, low, zones_used));
      written = λ r h. (let c = marked_contains (heads m.writes.items begins) r (subst (λ l. Contains l r) writes h) in
          let low = c.0 in
          subst (λ l. Contains l r) (sym uses)
          (contains_marked (heads m.uses.items begins) r (omega (arith, low, zones_used, zones_written))
          (heads_under m.writes.items m.uses.items begins (written_many ∙ sym used_many) under r c.1)));
    };
  }

-- ---- marks of a layout's areas

pub few_areas : (areas : List Area) → limit_passed areas ≡ None → length areas ≤ most_resources
few_areas areas none = let few = (within_limits areas none).0 in grind (arith, nat_tests)

pub few_marks : (areas : List Area) (m : Marks) → length areas ≤ most_resources → AreMarks areas m → AreFew m
few_marks areas m few many = let u = many.0 in let w = many.1 in (omega (arith, u, few), omega (arith, w, few))

-- ---- the footprint of a code

module _ (areas : List Area) (laid : IsLaid areas) (begins : List Bool) (outside : Marks) (each : List Marks)
    (are : AreBegins (length areas) outside each begins) where
  pub one_over : (m : Marks) (perf : Code) (zones : List Area) (foot : Footprint) → AreMarksOf areas perf m
      → ((p : ℕ) → suc p < length areas → get_or begins (suc p) false ≡ false → Stay m p (suc p))
      → zones ≡ zones_of areas begins → foot.uses ≡ marked (heads m.uses.items begins)
      → foot.writes ≡ marked (heads m.writes.items begins) → IsFootOver areas zones perf foot
  one_over m perf zones foot is stays z uses writes =
      subst (λ zs. IsFootOver areas zs perf foot) (sym z)
      (foot_is areas laid perf m begins foot is are.long are.first stays uses writes)
