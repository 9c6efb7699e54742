use Rattle.std.proofs.Common.{◌≡◌, ◌∙◌, ap, get_or}
use Rattle.cs_ir.specs.{Instruments.Numbered, Resources.ops_use, Resources.ops_write, declared.op.Code.Code}
use Rattle.cs_rwset.specs.{Footprints.stock_of, declared.code.Marks.Marks, inner.Marks.marks_of}
use Rattle.cs_rwset.specs.inner.Zoning.{AreMarksOf}
use Rattle.cs_rwset.proofs.ZoneSteps.{zip_more}
use Rattle.cs_rwset.proofs.zones.marks_of_each.Goals as goal

pub loop-instrument-preserved : goal.loop-instrument-preserved
loop-instrument-preserved c =
    let here : c.instrument-item.result ≡ get_or c.args.instruments.now c.loop-instrument.instrument-index
    c.instrument-item.result = cc in
    let areas = c.args.layout.now in
    let is = c.in_ok-marks_of.ensures in
    zip_more (λ (i : Numbered) (m : Marks). AreMarksOf c.args.layout.now i.perf m) c.args.instruments.now
    c.loop-instrument.instrument-index c.instrument-item.result
    c.loop-instrument.each.items c.push.new.self.items c.in_ok-marks_of.field-0 c.loop-instrument.invariant here
    c.loop-instrument-test.true (record {
      uses = is.uses ∙ ap (λ (x : Code). marks_of areas (ops_use (stock_of areas) x.ops)) c.perf.ensures.same;
      writes = is.writes ∙ ap (λ (x : Code). marks_of areas (ops_write (stock_of areas) x.ops)) c.perf.ensures.same;
    }) c.in_ok-push.ensures.items
