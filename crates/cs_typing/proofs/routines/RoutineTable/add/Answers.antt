use Rattle.std.proofs.Common.{arith}
use Rattle.cs_typing.proofs.routines.RoutineTable.add.Goals as goal

pub index_mut-requires : goal.index_mut-requires
index_mut-requires c =
    let all = c.args.self.now.by_definition.ok.0 in omega (arith, c.requires, all)
