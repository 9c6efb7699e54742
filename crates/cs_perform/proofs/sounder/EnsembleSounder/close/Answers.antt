use Rattle.std.proofs.lemmas.Result.{IfOk-weaker}
use Rattle.cs_perform.proofs.Standings.{never_gone, there}
use Rattle.cs_perform.proofs.sounder.EnsembleSounder.close.Goals as goal

pub unreachable-requires : goal.unreachable-requires
unreachable-requires g c = never_gone _ _ _ c.in_default.is c.requires.at.2

pub close-requires : goal.close-requires
close-requires g c = record { at = (_, _, there _ _ _ _ c.in-Some.is c.requires.at.2) }

pub returns : goal.returns
returns g c = record {
  starts = IfOk-weaker c.close.result _ _ (λ n counts s m at. counts s m (there _ _ _ _ c.in-Some.is at))
      c.close.ensures.starts;
}
