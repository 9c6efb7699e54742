use Rattle.std.proofs.Common.{refl}
use Rattle.cs_signal.specs.Linseg.{on_pieces, piece_at}
use Rattle.cs_signal.proofs.laws.worked_examples.Goals as goal

pub returns : goal.returns
unfolding on_pieces piece_at
returns c = record {
  line = refl;
  line_of_cycles = refl;
  falling_line = refl;
  linseg = refl;
  jump = refl;
  linen = refl;
  delay = refl;
  biquad = refl;
  integ = refl;
  diff = refl;
  samphold = refl;
  crossed = refl;
  interp = refl;
  downsamp = refl;
}
