use Rattle.cs_machine.proofs.Found.{found, not_found}
use Rattle.cs_machine.proofs.places.area_of.Goals as goal

pub returns-in-Some-clause-value : goal.returns-in-Some-clause-value
returns-in-Some-clause-value c =
    found c.args.layout.now c.args.res c.in-Some.place c.area_at.result c.words.ensures.laid c.in-Some.ensures.found
    c.area_at.ensures.value

pub returns-in-None-clause-value : goal.returns-in-None-clause-value
returns-in-None-clause-value c = not_found c.args.layout.now c.args.res c.in-None.ensures.none
