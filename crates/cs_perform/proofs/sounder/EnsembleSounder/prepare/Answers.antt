use Rattle.std.proofs.lemmas.Result.{on_ok_weaker}
use Rattle.cs_perform.proofs.Standings.{never_gone, there}
use Rattle.cs_perform.proofs.sounder.EnsembleSounder.prepare.Goals as goal

pub unreachable-requires : goal.unreachable-requires
unreachable-requires g c = never_gone _ _ _ c.in_default.is c.requires.1

pub prepare-requires : goal.prepare-requires
prepare-requires g c = (c.requires.0, there _ _ _ _ c.in-Some.is c.requires.1)

pub returns : goal.returns
returns g c =
    on_ok_weaker c.prepare.result
    (λ begins. record {
      begun = λ m at. begins.begun m (there _ _ _ _ c.in-Some.is at);
      turns = λ m at. begins.turns m (there _ _ _ _ c.in-Some.is at);
    })
    c.prepare.ensures
