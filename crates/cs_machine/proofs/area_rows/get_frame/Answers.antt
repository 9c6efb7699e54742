use Rattle.cs_machine.proofs.Writing.{can_here}
use Rattle.cs_machine.proofs.area_rows.get_frame.Goals as goal

pub get-requires : goal.get-requires
get-requires g c =
    let access = g.B.Bank.access (g.B.Bank.rest c.args.bank.now) in
    can_here access.can_get access.count c.args.area c.args.frame c.address.result c.requires.read c.requires.frame
    c.address.ensures
