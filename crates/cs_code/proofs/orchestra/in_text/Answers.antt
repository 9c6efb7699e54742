use Rattle.std.proofs.Common.{map, take, sym, subst}
use Rattle.std.specs.List.{All, AllZip}
use Rattle.cs_typed.specs.{Places.inside, WellRated.IsRatedBlock}
use Rattle.cs_code.specs.Lowered.{IsNumberedCode, bodies}
use Rattle.cs_code.proofs.Instruments.{at_instrument, bodies_more}
use Rattle.cs_typed.specs.TypedTree as typed
use Rattle.cs_code.proofs.orchestra.in_text.Goals as goal

pub add_instr-requires-clause-rated : goal.add_instr-requires-clause-rated
add_instr-requires-clause-rated c =
    let setting = inside c.args.orc.now.head.nchnls in
    let P = λ (i : typed.Instrument). IsRatedBlock setting i.body in
    let xs = c.deref-instr-items.result.now in (
      setting,
      at_instrument (typed.routines c.args.orc.now.routines.items) P xs c.loop-instr.instr-index c.instr-item.result
          (subst (λ l. All P (map (typed.instrument (typed.routines c.args.orc.now.routines.items)) l))
          (sym c.deref-instr-items.ensures.value) c.requires.rated.instrs) c.loop-instr-test.true c.instr-item.is,
    )

pub add_instr-requires-clause-library : goal.add_instr-requires-clause-library
add_instr-requires-clause-library c = c.requires.library

pub loop-instr-preserved : goal.loop-instr-preserved
loop-instr-preserved c =
    let o = c.args.orc.now in
    let setting = inside o.head.nchnls in
    let xs = c.deref-instr-items.result.now in
    let i = c.loop-instr.instr-index in
    let x = c.instr-item.result in
    let rated = at_instrument (typed.routines c.args.orc.now.routines.items)
    (λ (y : typed.Instrument). IsRatedBlock setting y.body) xs i x
    (subst (λ l. All (λ (y : typed.Instrument). IsRatedBlock setting y.body)
    (map (typed.instrument (typed.routines c.args.orc.now.routines.items)) l)) (sym c.deref-instr-items.ensures.value)
    c.requires.rated.instrs) c.loop-instr-test.true c.instr-item.is in
    subst (λ l. AllZip (IsNumberedCode o.spaces o.head.nchnls) l c.add_instr.new.list.items)
    (sym (bodies_more (typed.routines c.args.orc.now.routines.items) xs i x c.loop-instr-test.true c.instr-item.is))
    (c.in_ok-add_instr.ensures o.head.nchnls
    (bodies (map (typed.instrument (typed.routines c.args.orc.now.routines.items)) (take i xs))) rated
    c.loop-instr.invariant)
