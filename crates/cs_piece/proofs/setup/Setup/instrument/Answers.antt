use Rattle.std.proofs.Common.{◌≡◌, ◌<◌, ◌∙◌, ap, arith, length, pos, refl, slice_get, None, Some, subst, sym, w64}
use Rattle.std.proofs.lemmas.{Int.to_z-of_z, Option.slice_get_read, Slice.Zip.AllZip-long}
use Rattle.cs_base.proofs.Tests.{some_is}
use Rattle.cs_cells.specs.declared.footprint.Footprint.{Footprint}
use Rattle.cs_ir.specs.Instruments.{Numbered}
use Rattle.cs_meaning.specs.Core.{Block}
use Rattle.cs_piece.specs.{Ready.IsInstrumentOf, Ready.IsStageOf, Setups.SetupData, Setups.composition_of}
use Rattle.cs_rwset.specs.Zones.{IsFootOver}
use Rattle.cs_piece.proofs.Readied.{handed_out, not_there}
use Rattle.cs_voice.specs.declared.stage.Stage.{Stage}
use Rattle.cs_piece.proofs.setup.Setup.instrument.Goals as goal

pub index-requires : goal.index-requires
index-requires c =
    let many : length c.self.inside.lowered.instruments ≡ length c.self.inside.zoned.feet.items =
    sym (AllZip-long
    (λ (x : Numbered) (f : Footprint). IsFootOver c.self.inside.layout c.self.inside.zoned.zones x.perf f)
    c.self.inside.lowered.instruments c.self.inside.zoned.feet.items c.self.invariant.touch) in
    let same = ap length c.as_slice-instruments.ensures.same in
    let low : c.in-Some.place < length c.as_slice-instruments.result.now = c.in-Some.ensures.some.0 in
    omega (arith, many, same, low)

pub returns-in-Some : goal.returns-in-Some
returns-in-Some c =
    let place = c.in-Some.place in
    let i = c.index-instruments-place.result in
    let foot = c.index.result.now in
    let xs = c.as_slice-instruments.result.now in
    let low : place < length xs = c.in-Some.ensures.some.0 in
    let many : length c.self.inside.lowered.instruments ≡ length c.self.inside.zoned.feet.items =
    sym (AllZip-long
    (λ (x : Numbered) (f : Footprint). IsFootOver c.self.inside.layout c.self.inside.zoned.zones x.perf f)
    c.self.inside.lowered.instruments c.self.inside.zoned.feet.items c.self.invariant.touch) in
    let same = ap length c.as_slice-instruments.ensures.same in
    let foot_low : place < length c.self.inside.zoned.feet.items = omega (arith, many, same, low) in
    let here : slice_get xs place ≡ Some i =
    slice_get_read xs (length xs) place i refl low c.index-instruments-place.is in
    subst (λ (s : SetupData). (x : Block) × ((composition_of s).instrument c.args.number ≡ Some x)
    × (pos i.number ≡ c.args.number)
    × ((stage : Stage) → IsStageOf (composition_of s) stage → stage.layout.now ≡ s.layout
    → stage.zones.now ≡ s.zones → IsInstrumentOf stage i foot x)) c.self.view_is
    (handed_out c.notes_touch_what_there_is.ensures _ c.self.invariant place i foot
    (subst (λ l. slice_get l place ≡ Some i) c.as_slice-instruments.ensures.same here)
    (slice_get_read c.self.inside.zoned.feet.items (length c.self.inside.zoned.feet.items) place foot refl foot_low
    c.index.ensures) c.args.number
    (ap (λ (y : Numbered). pos y.number) (some_is i c.in-Some.ensures.some.1 (sym here ∙ c.in-Some.ensures.some.2))
    ∙ c.in-Some.ensures.some.3 ∙ to_z-of_z w64 c.args.number c.ranges.number))

pub returns-in-None : goal.returns-in-None
returns-in-None c =
    subst (λ (s : SetupData). (composition_of s).instrument c.args.number ≡ None) c.self.view_is
    (not_there c.notes_touch_what_there_is.ensures _ c.self.invariant c.args.number
    (λ k i at n. c.in-None.ensures.none k i
    (subst (λ l. slice_get l k ≡ Some i) (sym c.as_slice-instruments.ensures.same) at)
    (n ∙ sym (to_z-of_z w64 c.args.number c.ranges.number))))
