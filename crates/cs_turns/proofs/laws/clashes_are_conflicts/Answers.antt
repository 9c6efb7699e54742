use Rattle.cs_rwset.specs.Footprints.{stock_of}
use Rattle.cs_turns.specs.Turns.{touched}
use Rattle.cs_turns.proofs.{Clashes.clashes, Clashes.conflicts, Levels.foot_for}
use Rattle.cs_turns.proofs.laws.clashes_are_conflicts.Goals as goal

pub returns-clause-conflict : goal.returns-clause-conflict
returns-clause-conflict c = λ areas zones body other f g over h k.
    conflicts areas zones over (touched (stock_of areas) body) (touched (stock_of areas) other) f g
    (foot_for areas zones body f h) (foot_for areas zones other g k)

pub returns-clause-clash : goal.returns-clause-clash
returns-clause-clash c = λ areas zones body other f g over h k.
    clashes areas zones over (touched (stock_of areas) body) (touched (stock_of areas) other) f g
    (foot_for areas zones body f h) (foot_for areas zones other g k)
