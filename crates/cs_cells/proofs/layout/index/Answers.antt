use Rattle.std.proofs.Common.{arith}
use Rattle.cs_base.specs.declared.resource.Res.TheVariants.{Gi}
use Rattle.cs_cells.proofs.Areas.{keys_more}
use Rattle.cs_cells.proofs.layout.index.Goals as goal

pub loop-area-preserved : goal.loop-area-preserved
loop-area-preserved c =
    keys_more c.args.areas.now c.loop-area.area-index (record { res = Gi 0; first = 0; length = 0 }) c.key_of.result
    c.loop-area.keys.keys c.insert.new.self.keys
    c.requires (omega arith) c.key_of.ensures c.loop-area.invariant c.in_ok-insert.ensures.keys
