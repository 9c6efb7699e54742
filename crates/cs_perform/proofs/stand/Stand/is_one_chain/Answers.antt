use Rattle.std.proofs.Common.{length}
use Rattle.cs_piece.specs.Setups.{composition_of}
use Rattle.cs_perform.proofs.stand.Stand.is_one_chain.Goals as goal

pub is_one_chain-requires : goal.is_one_chain-requires
is_one_chain-requires g c =
    let at = c.requires.2 in (
      length c.args.self.now.life.stage.zones.now,
      rw c.deref.ensures.value (c.serial_runs_perform.ensures.footprints (composition_of c.requires.0)
          c.args.self.now.life _ _ c.requires.1 at.stands),
    )
