use Rattle.std.proofs.Common.{List, ◌∙◌, ap, map, subst, sym}
use Rattle.std.specs.List.{AllZip}
use Rattle.cs_cells.specs.{Areas.limit_passed, declared.footprint.Footprint.Footprint}
use Rattle.cs_ir.specs.{Instruments.Numbered, declared.op.Code.Code}
use Rattle.cs_rwset.specs.Zones.{IsFootOver}
use Rattle.cs_layout.specs.Layouts.{AreApart, areas_of}
use Rattle.cs_piece.specs.{Compositions.live_in, Tables.table_of}
use Rattle.cs_piece.proofs.Ascending.{apart_in}
use Rattle.cs_typed.specs.TypedTree as typed
use Rattle.cs_piece.proofs.setup.shared_by.Goals as goal

pub layout_of-requires : goal.layout_of-requires
layout_of-requires c =
    subst (λ ts. AreApart (live_in ts)) (sym (ap (map table_of) c.deref.ensures.value
    ∙ c.in_ok-tables.ensures c.requires.codes.0 c.requires.codes.1)) (apart_in c.requires.codes.0 c.args.events.now)

pub returns-clause-tables : goal.returns-clause-tables
returns-clause-tables c = c.in_ok-tables.ensures

pub returns-clause-layout : goal.returns-clause-layout
returns-clause-layout c =
    c.in_ok-layout.ensures.layout ∙ ap (λ ts. areas_of c.args.ksmps (typed.shared_names c.args.globals.now)
    c.args.spaces (live_in (map table_of ts))) c.deref.ensures.value

pub returns-clause-within : goal.returns-clause-within
returns-clause-within c = ap limit_passed c.in_ok-layout.ensures.layout ∙ c.in_ok-layout.ensures.within

pub returns-clause-outside : goal.returns-clause-outside
returns-clause-outside c = subst (λ (code : Code). IsFootOver c.in_ok-layout.layout c.in_ok-zoned.zoned.zones code
    c.in_ok-zoned.zoned.outside) c.perf.ensures.same c.in_ok-zoned.ensures.outside

pub returns-clause-feet : goal.returns-clause-feet
returns-clause-feet c = subst (λ (xs : List Numbered). AllZip (λ (i : Numbered) (foot : Footprint).
    IsFootOver c.in_ok-layout.layout c.in_ok-zoned.zoned.zones i.perf foot) xs c.in_ok-zoned.zoned.feet.items)
    c.as_slice-instruments.ensures.same c.in_ok-zoned.ensures.feet
