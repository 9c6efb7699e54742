use Rattle.cs_perform.proofs.Wholes.{file_front}
use Rattle.cs_perform.proofs.laws.early_stops_are_fronts.Goals as goal

pub returns : goal.returns
returns c piece head width n le = file_front piece head width n le
