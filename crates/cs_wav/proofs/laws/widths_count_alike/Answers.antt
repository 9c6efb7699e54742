use Rattle.cs_wav.proofs.Scales.{out_alike}
use Rattle.cs_wav.proofs.laws.widths_count_alike.Goals as goal

pub returns : goal.returns
returns c = out_alike
