use Rattle.std.proofs.Common.{◌∙◌, ◌+◌, ◌<◌, ap, arith, length, refl, subst}
use Rattle.cs_cells.specs.Cells.{cell, with_row}
use Rattle.cs_machine.specs.Rows.{row_wave}
use Rattle.cs_machine.proofs.Writing.{can_here, within_here}
use Rattle.cs_machine.proofs.area_rows.write_row.Goals as goal

pub set_row-requires-clause-set : goal.set_row-requires-clause-set
set_row-requires-clause-set g c = λ j low.
    let access = g.B.Bank.access (g.B.Bank.rest c.args.bank.now) in
    can_here access.can_set access.count c.args.area j (c.args.area.first + j) c.requires.write
    (subst (λ n. j < n) c.requires.row low) refl

pub set_row-requires-clause-there : goal.set_row-requires-clause-there
set_row-requires-clause-there g c = λ j low.
    let access = g.B.Bank.access (g.B.Bank.rest c.args.bank.now) in
    within_here access.can_set access.count (g.B.Bank.cells c.args.bank.now) c.args.area j
    (g.met.B.Bank.counted c.args.bank.now) c.requires.write (subst (λ n. j < n) c.requires.row low)

pub set_row-requires-clause-small : goal.set_row-requires-clause-small
set_row-requires-clause-small g c = omega (arith, c.requires.row, c.requires.small)

pub returns-clause-cells : goal.returns-clause-cells
returns-clause-cells g c =
    c.set_row.ensures.cells
    ∙ ap (λ n. with_row c.args.area.first n (row_wave c.args.row.now) (cell (g.B.Bank.cells c.args.bank.now)))
    c.requires.row
