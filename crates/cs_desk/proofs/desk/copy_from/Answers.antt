use Rattle.std.proofs.Common.{◌∙◌, arith, length}
use Rattle.cs_desk.proofs.Copied.{part_is, room_of}
use Rattle.cs_desk.proofs.desk.copy_from.Goals as goal

pub returns : goal.returns
returns c = c.copy_from_slice.ensures.after
    ∙ part_is c.args.numbers.now c.args.first (length c.args.row.now) _
    (room_of c.args.first (length c.args.row.now) (length c.args.numbers.now) c.is_empty.result c.is_empty.ensures
    c.if-is_empty.false c.requires.there) (omega arith)
