use Rattle.cs_layout.proofs.{Counted.spaces_are, ZakSpaces.are_spaces}
use Rattle.cs_layout.proofs.laws.layouts_have_their_places.Goals as goal

pub returns-clause-spaces : goal.returns-clause-spaces
returns-clause-spaces c = spaces_are

pub returns-clause-places : goal.returns-clause-places
returns-clause-places c = are_spaces
