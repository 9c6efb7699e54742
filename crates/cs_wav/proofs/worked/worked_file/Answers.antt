use Rattle.std.proofs.Common.{refl}
use Rattle.cs_wav.specs.Wav.{wav_of, header_bytes, samples_of}
use Rattle.cs_wav.proofs.worked.worked_file.Goals as goal

pub returns-clause-narrow : goal.returns-clause-narrow
unfolding wav_of header_bytes samples_of
returns-clause-narrow c head h = rw (h.0, h.1, h.2) refl

pub returns-clause-odd : goal.returns-clause-odd
unfolding wav_of header_bytes samples_of
returns-clause-odd c head = refl
