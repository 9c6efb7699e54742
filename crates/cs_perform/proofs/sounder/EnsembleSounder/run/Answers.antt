use Rattle.std.proofs.Common.{refl}
use Rattle.cs_perform.proofs.Standings.{never_gone, there}
use Rattle.cs_perform.proofs.sounder.EnsembleSounder.run.Goals as goal

pub unreachable-requires : goal.unreachable-requires
unreachable-requires g c = never_gone _ _ _ c.in_default.is c.requires.at.2

pub is_shared-requires : goal.is_shared-requires
is_shared-requires g c = record { at = (_, _, there _ _ _ _ c.in-Some.is c.requires.at.2) }

pub run-requires-clause-at : goal.run-requires-clause-at
run-requires-clause-at g c = (
  c.requires.at.0,
  c.requires.at.1,
  c.is_shared.ensures.at _ _ (there _ _ _ _ c.in-Some.is c.requires.at.2),
  c.requires.at.3,
)

pub returns-then-not-is_shared-clause-runs : goal.returns-then-not-is_shared-clause-runs
returns-then-not-is_shared-clause-runs g c = record {
  ended = λ s m at. c.run.ensures.runs.ended s m (c.is_shared.ensures.at s m (there _ _ _ _ c.in-Some.is at));
  counted = λ s n at. c.run.ensures.runs.counted s n (c.is_shared.ensures.at s _ (there _ _ _ _ c.in-Some.is at));
  heard = λ s n at. c.run.ensures.runs.heard s n (c.is_shared.ensures.at s _ (there _ _ _ _ c.in-Some.is at));
}

pub share-requires-clause-at : goal.share-requires-clause-at
share-requires-clause-at g c = (
  c.requires.at.0,
  c.requires.at.1,
  c.is_shared.ensures.at _ _ (there _ _ _ _ c.in-Some.is c.requires.at.2),
  c.requires.at.3,
)

pub share-requires-clause-ready : goal.share-requires-clause-ready
share-requires-clause-ready g c = c.if-not-is_shared.ensures.ready refl

pub returns-clause-runs : goal.returns-clause-runs
returns-clause-runs g c = record {
  ended = λ s m at. c.share.ensures.runs.ended s m (c.is_shared.ensures.at s m (there _ _ _ _ c.in-Some.is at));
  counted = λ s n at. c.share.ensures.runs.counted s n (c.is_shared.ensures.at s _ (there _ _ _ _ c.in-Some.is at));
  heard = λ s n at. c.share.ensures.runs.heard s n (c.is_shared.ensures.at s _ (there _ _ _ _ c.in-Some.is at));
}
