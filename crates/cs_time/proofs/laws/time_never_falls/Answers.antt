use Rattle.cs_time.proofs.Times.{time_grows, time_small, cycles_grow}
use Rattle.cs_time.proofs.laws.time_never_falls.Goals as goal

pub returns : goal.returns
returns c = record { time = time_grows; cycle = cycles_grow; small = time_small }
