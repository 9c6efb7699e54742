use Rattle.std.proofs.Common.{refl}
use Rattle.std.specs.Fmt.{digits}
use Rattle.cs_edge.specs.Taps.{peak_line, mirror_line}
use Rattle.cs_edge.proofs.examples.worked_examples.Goals as goal

pub returns-clause-hundred : goal.returns-clause-hundred
unfolding peak_line digits
returns-clause-hundred c = refl

pub returns-clause-smallest : goal.returns-clause-smallest
unfolding peak_line digits
returns-clause-smallest c = refl

pub returns-clause-mirror : goal.returns-clause-mirror
unfolding mirror_line digits
returns-clause-mirror c = refl

pub returns-clause-no_room : goal.returns-clause-no_room
unfolding mirror_line digits
returns-clause-no_room c = refl
