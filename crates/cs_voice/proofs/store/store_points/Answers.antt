use Rattle.std.proofs.Common.{arith, ◌≡◌, ◌∙◌, Some, None, ap, refl, subst, sym}
use Rattle.cs_cells.specs.Cells.{cell}
use Rattle.cs_meaning.specs.Pieces.{index, steps_of}
use Rattle.cs_ir.specs.Registers.{rate_at}
use Rattle.cs_machine.specs.Registers.{values}
use Rattle.cs_signal.specs.Operands.{operand_at}
use Rattle.cs_voice.specs.Cells.{stored_area}
use Rattle.cs_voice.proofs.Stored.{Stores, store_done, stored_there, stores_same}
use Rattle.cs_voice.proofs.store.store_points.Goals as goal

pub store-requires-clause-power : goal.store-requires-clause-power
store-requires-clause-power g c =
    (stored_there (g.B.Bank.access (g.B.Bank.rest c.args.bank.now)) c.args.at.now.layout.now c.args.reach
    (index c.first.result) c.in-Some.area (sym c.stored_area.ensures.value ∙ c.in-Some.is) c.requires.write).power

pub store-requires-clause-write : goal.store-requires-clause-write
store-requires-clause-write g c =
    (stored_there (g.B.Bank.access (g.B.Bank.rest c.args.bank.now)) c.args.at.now.layout.now c.args.reach
    (index c.first.result) c.in-Some.area (sym c.stored_area.ensures.value ∙ c.in-Some.is) c.requires.write).write

pub returns-in-Some-clause-does : goal.returns-in-Some-clause-does
returns-in-Some-clause-does g c = λ into same areas piece stock kinds counts at placed state.
    let s = c.args.state.now in
    let before = cell (g.B.Bank.cells c.args.bank.now) in
    let after = cell (g.B.Bank.cells c.store.new.bank) in
    let by = c.args.storing in
    let there : stored_area areas c.args.reach (index (values s.regs by.table 0)) ≡ Some c.in-Some.area =
    ap (λ l. stored_area l c.args.reach (index (values s.regs by.table 0))) (sym at.layout)
    ∙ ap (λ z. stored_area c.args.at.now.layout.now c.args.reach (index z)) (sym c.first.ensures)
    ∙ sym c.stored_area.ensures.value ∙ c.in-Some.is in
    store_done areas piece stock kinds counts c.args.reach into by.signal by.index by.table s before after placed state
    (subst (λ o. Stores o (steps_of s.regs.ksmps (rate_at into)) (values s.regs by.signal) (values s.regs by.index)
    before after) (sym there) (stores_same c.in-Some.area c.steps-steps.result (steps_of s.regs.ksmps (rate_at into))
    (operand_at c.operand-signal.result) (values s.regs by.signal)
    (operand_at c.operand-index.result) (values s.regs by.index) before after
    (c.steps-steps.ensures ∙ ap (λ n. steps_of n by.rate)
    (let e : c.len.result ≡ s.regs.ksmps =
    omega (arith, c.len.ensures, c.requires.room.row, c.args.state.now.row.ok.0) in e)
    ∙ ap (steps_of s.regs.ksmps) (sym same))
    (λ i j. c.operand-signal.ensures.value j i) (λ i j. c.operand-index.ensures.value j i) c.store.ensures.cells))

pub returns-in_default-clause-does : goal.returns-in_default-clause-does
returns-in_default-clause-does g c = λ into same areas piece stock kinds counts at placed state.
    let s = c.args.state.now in
    let before = cell (g.B.Bank.cells c.args.bank.now) in
    let by = c.args.storing in
    let none : stored_area areas c.args.reach (index (values s.regs by.table 0)) ≡ None =
    ap (λ l. stored_area l c.args.reach (index (values s.regs by.table 0))) (sym at.layout)
    ∙ ap (λ z. stored_area c.args.at.now.layout.now c.args.reach (index z)) (sym c.first.ensures)
    ∙ sym c.stored_area.ensures.value ∙ c.in_default.is in
    store_done areas piece stock kinds counts c.args.reach into by.signal by.index by.table s before before placed state
    (subst (λ o. Stores o (steps_of s.regs.ksmps (rate_at into)) (values s.regs by.signal) (values s.regs by.index)
    before before) (sym none) refl)
