use Rattle.std.proofs.Common.{◌≡◌, ◌∙◌, length, subst, sym, List}
use Rattle.std.specs.List.{All, AllZip}
use Rattle.std.proofs.lemmas.Result.{IfOk-weaker}
use Rattle.cs_cells.specs.declared.footprint.Footprint.{Footprint}
use Rattle.cs_ir.specs.Instruments.{Numbered}
use Rattle.cs_rwset.specs.{Zones.IsFootOver, declared.code.Marks.Marks, declared.zones.Zoned.Zoned}
use Rattle.cs_rwset.specs.inner.Zoning.{AreBegins, AreMarks, AreMarksOf, IsFootOf}
use Rattle.cs_rwset.proofs.{Footed.marks_many, ZoneSteps.zip_all, ZoneSteps.zip_both}
use Rattle.cs_rwset.proofs.zones.find_zones.Goals as goal

pub begins_of-requires-clause-outside : goal.begins_of-requires-clause-outside
begins_of-requires-clause-outside c =
    let many = marks_many c.args.layout.now c.args.outside.now c.in_ok-outside.outside
    (record { uses = c.in_ok-outside.ensures.uses; writes = c.in_ok-outside.ensures.writes }) in
    (many.0 ∙ sym c.len.ensures, many.1 ∙ sym c.len.ensures)

pub begins_of-requires-clause-each : goal.begins_of-requires-clause-each
begins_of-requires-clause-each c =
    subst (All (λ (m : Marks). (length m.uses.items ≡ c.len.result) × (length m.writes.items ≡ c.len.result)))
    (sym c.deref.ensures.value)
    (zip_all (λ (i : Numbered) (m : Marks). AreMarksOf c.args.layout.now i.perf m)
    (λ (m : Marks). (length m.uses.items ≡ c.len.result) × (length m.writes.items ≡ c.len.result))
    (λ i m is. let many = marks_many c.args.layout.now i.perf m is in
    (many.0 ∙ sym c.len.ensures, many.1 ∙ sym c.len.ensures))
    c.args.instruments.now c.in_ok-each.each.items c.in_ok-each.ensures)

pub zones_by-requires-clause-outside : goal.zones_by-requires-clause-outside
zones_by-requires-clause-outside c =
    marks_many c.args.layout.now c.args.outside.now c.in_ok-outside.outside
    (record { uses = c.in_ok-outside.ensures.uses; writes = c.in_ok-outside.ensures.writes })

pub zones_by-requires-clause-each : goal.zones_by-requires-clause-each
zones_by-requires-clause-each c =
    subst (All (AreMarks c.args.layout.now)) (sym c.deref-2.ensures.value)
    (zip_all (λ (i : Numbered) (m : Marks). AreMarksOf c.args.layout.now i.perf m) (AreMarks c.args.layout.now)
    (λ i m is. marks_many c.args.layout.now i.perf m is)
    c.args.instruments.now c.in_ok-each.each.items c.in_ok-each.ensures)

pub zones_by-requires-clause-begins : goal.zones_by-requires-clause-begins
zones_by-requires-clause-begins c =
    subst (λ n. AreBegins n c.in_ok-outside.outside c.deref-2.result.now c.deref-3.result.now) c.len.ensures
    (subst (λ l. AreBegins c.len.result c.in_ok-outside.outside l c.deref-3.result.now)
    (c.deref.ensures.value ∙ sym c.deref-2.ensures.value)
    (subst (AreBegins c.len.result c.in_ok-outside.outside c.deref.result.now) (sym c.deref-3.ensures.value)
    c.in_ok-begins.ensures))

pub returns-clause-outside : goal.returns-clause-outside
returns-clause-outside c =
    IfOk-weaker c.zones_by.result (λ (z : Zoned). IsFootOf c.args.layout.now z.zones c.in_ok-outside.outside z.outside)
    (λ (z : Zoned). IsFootOver c.args.layout.now z.zones c.args.outside.now z.outside) (λ z is. is c.args.outside.now
    (record { uses = c.in_ok-outside.ensures.uses; writes = c.in_ok-outside.ensures.writes }))
    c.zones_by.ensures.outside

pub returns-clause-feet : goal.returns-clause-feet
returns-clause-feet c =
    let areas = c.args.layout.now in
    IfOk-weaker c.zones_by.result (λ (z : Zoned). AllZip (IsFootOf areas z.zones) c.deref-2.result.now z.feet.items)
    (λ (z : Zoned). AllZip (λ (i : Numbered) (foot : Footprint). IsFootOver areas z.zones i.perf foot)
    c.args.instruments.now z.feet.items)
    (λ z are. zip_both (λ (i : Numbered) (m : Marks). AreMarksOf areas i.perf m) (IsFootOf areas z.zones)
    (λ (i : Numbered) (foot : Footprint). IsFootOver areas z.zones i.perf foot) (λ i m foot is so. so i.perf is)
    c.args.instruments.now c.in_ok-each.each.items z.feet.items c.in_ok-each.ensures
    (subst (λ (l : List Marks). AllZip (IsFootOf areas z.zones) l z.feet.items) c.deref-2.ensures.value are))
    c.zones_by.ensures.feet
