use Rattle.std.proofs.Common.{◌∙◌, ap, arith}
use Rattle.cs_cells.specs.Cells.{cell}
use Rattle.cs_machine.proofs.Writing.{within_here, one_value}
use Rattle.cs_machine.proofs.area_rows.write_value.Goals as goal

pub returns-clause-cells : goal.returns-clause-cells
returns-clause-cells g c =
    let access = g.B.Bank.access (g.B.Bank.rest c.args.bank.now) in
    ap cell c.set_frame.ensures.cells
    ∙ one_value (g.B.Bank.cells c.args.bank.now) c.args.area c.args.value c.requires.one
    (within_here access.can_set access.count (g.B.Bank.cells c.args.bank.now) c.args.area 0
    (g.met.B.Bank.counted c.args.bank.now) c.requires.write (omega (arith, c.requires.one)))
