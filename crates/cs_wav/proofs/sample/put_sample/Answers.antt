use Rattle.std.proofs.lemmas.{Grind.common_steps, Int.ints}
use Rattle.std.proofs.Common.{to_z, of_z, w64, arith}
use Rattle.cs_wav.proofs.Samples.{put_mid-front, low_bytes_are}
use Rattle.cs_wav.proofs.sample.put_sample.Goals as goal

pub returns : goal.returns
returns c = grind (arith, common_steps, ints, low_bytes_are, of_z, put_mid-front, to_z, w64)
