use Rattle.std.proofs.Common.{◌∙◌, sym}
use Rattle.cs_perform.proofs.Cycles.{runs_notes}
use Rattle.cs_perform.proofs.sounder.StandSounder.run.Goals as goal

pub run_alone-requires-clause-at : goal.run_alone-requires-clause-at
run_alone-requires-clause-at g c = (c.requires.at.0, c.requires.at.1, c.requires.at.2)

pub run_alone-requires-clause-block : goal.run_alone-requires-clause-block
run_alone-requires-clause-block g c = c.requires.at.3 ∙ sym c.requires.at.2.block

pub end-requires : goal.end-requires
end-requires g c = record { at = (_, _, c.run_alone.ensures.performed _ _ c.requires.at.2) }

pub returns-clause-runs : goal.returns-clause-runs
returns-clause-runs g c =
    runs_notes _ _ _ _ c.args.self.now c.run_alone.new.self c.end.new.self _ _ _ (λ s m at. at)
    c.run_alone.ensures.performed c.run_alone.ensures.counted c.run_alone.ensures.heard c.end.ensures.ended
    (λ s m at. at)
