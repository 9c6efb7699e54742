use Rattle.std.proofs.Common.{◌≡◌, ◌<◌, suc, false, get_or, length, subst, sym, ℕ}
use Rattle.cs_cells.specs.declared.footprint.Footprint.{Footprint}
use Rattle.cs_rwset.specs.{Zones.AreZones, declared.code.Marks.Marks, inner.Marks.marked}
use Rattle.cs_rwset.specs.inner.Zoning.{IsFootOf, Stay, heads}
use Rattle.cs_rwset.proofs.Footed.{few_areas, few_marks, one_over}
use Rattle.cs_rwset.proofs.{ZoneSteps.zip_so, ZonesLaid.are_zones}
use Rattle.cs_rwset.proofs.zones.zones_by.Goals as goal

pub foot_over-requires : goal.foot_over-requires
foot_over-requires c =
    few_marks c.args.layout.now c.args.outside.now (few_areas c.args.layout.now c.words.ensures.within)
    c.requires.outside

pub feet_over-requires : goal.feet_over-requires
feet_over-requires c k d low =
    few_marks c.args.layout.now (get_or c.args.each.now k d) (few_areas c.args.layout.now c.words.ensures.within)
    (c.requires.each k d low)

pub layout_of-requires : goal.layout_of-requires
layout_of-requires c = c.requires.begins.long

pub returns-clause-zones : goal.returns-clause-zones
returns-clause-zones c =
    subst (AreZones c.args.layout.now) (sym c.in_ok-layout_of.ensures)
    (are_zones c.args.layout.now c.args.begins.now c.words.ensures.laid c.requires.begins.long)

pub returns-clause-outside : goal.returns-clause-outside
returns-clause-outside c perf is =
    let begins = c.args.begins.now in
    one_over c.args.layout.now c.words.ensures.laid begins c.args.outside.now
    c.args.each.now c.requires.begins c.args.outside.now perf c.in_ok-layout_of.field-0
    c.in_ok-foot_over.field-0 is c.requires.begins.outside_stays
    c.in_ok-layout_of.ensures c.in_ok-foot_over.ensures.uses c.in_ok-foot_over.ensures.writes

pub returns-clause-feet : goal.returns-clause-feet
returns-clause-feet c =
    let areas = c.args.layout.now in
    let begins = c.args.begins.now in
    zip_so (λ (m : Marks). (p : ℕ) → suc p < length areas → get_or begins (suc p) false ≡ false → Stay m p (suc p))
    (λ (m : Marks) (foot : Footprint). (foot.uses ≡ marked (heads m.uses.items begins))
    × (foot.writes ≡ marked (heads m.writes.items begins))) (IsFootOf areas c.in_ok-layout_of.field-0)
    (λ m foot stays so perf is. one_over areas c.words.ensures.laid begins c.args.outside.now
    c.args.each.now c.requires.begins m perf c.in_ok-layout_of.field-0 foot is stays c.in_ok-layout_of.ensures
    so.0 so.1) c.args.each.now c.in_ok-feet_over.field-0.items
    (λ k d low p l still. c.requires.begins.each_stays p l still k d low) c.in_ok-feet_over.ensures
