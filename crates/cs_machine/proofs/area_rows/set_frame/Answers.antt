use Rattle.cs_machine.proofs.Writing.{can_here}
use Rattle.cs_machine.proofs.area_rows.set_frame.Goals as goal

pub set-requires : goal.set-requires
set-requires g c =
    let access = g.B.Bank.access (g.B.Bank.rest c.args.bank.now) in
    can_here access.can_set access.count c.args.area c.args.frame c.address.result c.requires.write c.requires.frame
    c.address.ensures
