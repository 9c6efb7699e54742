use Rattle.std.proofs.Common.{◌≡◌, ◌∙◌, ◌+◌, ◌-◌, ◌<◌, ap, arith, length, refl, subst}
use Rattle.cs_cells.specs.Cells.{cell, with_row}
use Rattle.cs_cells.proofs.Rows.{with_row_none}
use Rattle.cs_ir.specs.Waves.{silence}
use Rattle.cs_machine.proofs.Writing.{can_here, set_again, within_here}
use Rattle.cs_machine.proofs.Zeros.{cleared_more, front_long, front_of_zeros}
use Rattle.cs_machine.proofs.area_rows.clear.Goals as goal

pub loop-done-init : goal.loop-done-init
loop-done-init g c = record {
  cells = with_row_none c.args.area.first silence (cell (g.B.Bank.cells c.args.bank.now));
  within = omega arith;
  rest = refl;
}

pub set_row-requires-clause-set : goal.set_row-requires-clause-set
set_row-requires-clause-set g c = λ j low.
    let done = c.loop-done.done in
    let few : j < c.min-count.result = subst (λ n. j < n)
    (front_long c.exact-zeros.result c.min-count.result 64 (c.args.area.length - done) c.min-count.ensures) low in
    let access = g.B.Bank.access (g.B.Bank.rest c.loop-done.bank) in
    can_here access.can_set access.count c.args.area (done + j) (c.args.area.first + done + j)
    (set_again g.B.Bank.access (g.B.Bank.rest c.args.bank.now) (g.B.Bank.rest c.loop-done.bank) c.args.area
    c.loop-done.invariant.rest c.requires.write) (omega (arith, few, c.min-count.ensures)) (omega arith)

pub set_row-requires-clause-there : goal.set_row-requires-clause-there
set_row-requires-clause-there g c = λ j low.
    let done = c.loop-done.done in
    let few : j < c.min-count.result = subst (λ n. j < n)
    (front_long c.exact-zeros.result c.min-count.result 64 (c.args.area.length - done) c.min-count.ensures) low in
    let access = g.B.Bank.access (g.B.Bank.rest c.loop-done.bank) in
    let there = within_here access.can_set access.count (g.B.Bank.cells c.loop-done.bank) c.args.area (done + j)
    (g.met.B.Bank.counted c.loop-done.bank)
    (set_again g.B.Bank.access (g.B.Bank.rest c.args.bank.now) (g.B.Bank.rest c.loop-done.bank) c.args.area
    c.loop-done.invariant.rest c.requires.write) (omega (arith, few, c.min-count.ensures)) in
    omega (arith, there)

pub set_row-requires-clause-small : goal.set_row-requires-clause-small
set_row-requires-clause-small g c =
    let long = front_long c.exact-zeros.result c.min-count.result 64 (c.args.area.length - c.loop-done.done)
    c.min-count.ensures in
    omega (arith, long, c.min-count.ensures, c.requires.small, c.loop-done-test.true)

pub loop-done-preserved : goal.loop-done-preserved
loop-done-preserved g c =
    let before = cell (g.B.Bank.cells c.loop-done.bank) in
    record {
      cells = cleared_more (cell (g.B.Bank.cells c.args.bank.now)) c.args.area.first c.loop-done.done
          c.min-count.result c.exact-zeros.result before (cell (g.B.Bank.cells c.set_row.new.self))
          c.exact-zeros.ensures c.loop-done.invariant.cells (c.set_row.ensures.cells
          ∙ ap (λ row. with_row (c.args.area.first + c.loop-done.done) (length row) (cell row) before)
          (front_of_zeros c.exact-zeros.result c.min-count.result 64 (c.args.area.length - c.loop-done.done)
          c.min-count.ensures));
      within = omega (arith, c.min-count.ensures, c.loop-done-test.true);
      rest = c.set_row.ensures.rest ∙ c.loop-done.invariant.rest;
    }

pub returns-clause-cells : goal.returns-clause-cells
returns-clause-cells g c =
    let all : c.loop-done.done ≡ c.args.area.length =
    omega (arith, c.loop-done-test.false, c.loop-done.invariant.within) in
    c.loop-done.invariant.cells
    ∙ ap (λ n. with_row c.args.area.first n silence (cell (g.B.Bank.cells c.args.bank.now))) all
