use Rattle.cs_machine.proofs.Found.{small}
use Rattle.cs_machine.proofs.places.area_at.Goals as goal

pub returns-clause-small : goal.returns-clause-small
returns-clause-small c =
    small c.args.layout.now c.args.place c.area.result c.words.ensures.laid c.words.ensures.within c.area.ensures
