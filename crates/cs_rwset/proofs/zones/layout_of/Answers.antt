use Rattle.std.proofs.Common.{◌≡◌, None, ap, subst, sym, ◌∙◌}
use Rattle.std.specs.Prelude.{IfNone}
use Rattle.cs_base.specs.declared.fault.Or.TheVariants as or
use Rattle.cs_cells.specs.Areas.{IsLaid, limit_passed}
use Rattle.cs_rwset.proofs.ZonesLaid.{are_zones, zones_within}
use Rattle.cs_rwset.proofs.zones.layout_of.Goals as goal

pub build-requires : goal.build-requires
build-requires c =
    subst IsLaid (sym (c.deref.ensures.value ∙ c.in_ok-zones.ensures))
    (are_zones c.args.layout.now c.args.begins.now c.words.ensures.laid c.requires).laid

pub unreachable-requires : goal.unreachable-requires
unreachable-requires c =
    let none : limit_passed c.deref.result.now ≡ None =
    ap limit_passed (c.deref.ensures.value ∙ c.in_ok-zones.ensures) ∙ zones_within c.args.layout.now _
    (are_zones c.args.layout.now c.args.begins.now c.words.ensures.laid c.requires) c.words.ensures.within in
    let e : c.in-Err-Fault.field-0 ≡ or.OutOfMemory =
    subst (λ o. IfNone o (c.in-Err-Fault.field-0 ≡ or.OutOfMemory)) none c.in-Err-Fault.ensures.memory in
    let f = c.in-Err-Fault.field-0-is in
    cc
