use Rattle.std.proofs.Common.{◌∙◌, subst, sym}
use Rattle.std.specs.{Option.IsSomeAnd, Prelude.Option}
use Rattle.cs_perform.specs.{declared.stand.Stand.Stand, inner.Stands.IsReady}
use Rattle.cs_perform.proofs.{Cycles.runs_notes, Standings.never_taken, Standings.put_there, Standings.there}
use Rattle.cs_perform.proofs.sounder.Ensemble.share.Goals as goal

pub unreachable-requires : goal.unreachable-requires
unreachable-requires g c = never_taken _ _ _ _ c.take.ensures.value c.in_default.not-Some c.requires.at.2

pub run_shared-stand-requires-clause-at : goal.run_shared-stand-requires-clause-at
run_shared-stand-requires-clause-at g c = (_, _, there _ _ _ _ (sym c.in-Some.ensures.value) c.requires.at.2)

pub run_shared-stand-requires-clause-ready : goal.run_shared-stand-requires-clause-ready
run_shared-stand-requires-clause-ready g c =
    subst (λ (o : Option (Stand g.row.G.Denot)). IsSomeAnd o (λ (x : Stand g.row.G.Denot). IsReady x))
    (sym c.in-Some.ensures.value) c.requires.ready

pub run_shared-stand-requires-clause-block : goal.run_shared-stand-requires-clause-block
run_shared-stand-requires-clause-block g c =
    c.requires.at.3 ∙ sym (there _ _ _ _ (sym c.in-Some.ensures.value) c.requires.at.2).block

pub end-requires : goal.end-requires
end-requires g c = record {
  at = (
    _,
    _,
    c.run_shared-stand.ensures.performed _ _
        (there _ _ _ _ (sym c.in-Some.ensures.value) c.requires.at.2),
  );
}

pub returns-clause-runs : goal.returns-clause-runs
returns-clause-runs g c =
    runs_notes _ _ _ _ c.in-Some.stand c.run_shared-stand.result c.end.new.self _ _ _
    (λ s m at. there _ _ _ _ (sym c.in-Some.ensures.value) at) c.run_shared-stand.ensures.performed
    c.run_shared-stand.ensures.counted c.run_shared-stand.ensures.heard c.end.ensures.ended
    (λ s m at. put_there _ _ _ _ c.replace.ensures.after at)
