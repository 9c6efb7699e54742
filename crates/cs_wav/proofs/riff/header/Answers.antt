use Rattle.std.proofs.Common.{arith}
use Rattle.std.proofs.lemmas.Grind.{common_steps}
use Rattle.cs_wav.specs.Wav.{header_bytes}
use Rattle.cs_wav.proofs.riff.header.Goals as goal

pub returns : goal.returns
unfolding header_bytes
returns c = grind (arith, common_steps)
