use Rattle.cs_typing.proofs.NoZakinit.{no_zakinit}
use Rattle.cs_typing.proofs.laws.instruments_have_no_zakinit.Goals as goal

pub returns : goal.returns
returns c = no_zakinit
