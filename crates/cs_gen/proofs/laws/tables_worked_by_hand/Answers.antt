use Rattle.std.proofs.Common.{refl}
use Rattle.cs_gen.specs.Points.{points_of, point, plain_point, harmonics, sine, wave, wave_at, quarter, segments}
use Rattle.cs_gen.specs.Points.{segment_at, begin_of}
use Rattle.cs_gen.proofs.laws.tables_worked_by_hand.Goals as goal

pub returns : goal.returns
unfolding points_of point plain_point harmonics sine wave wave_at quarter segments segment_at begin_of
returns c = record {
  sine = refl;
  thirds = refl;
  jump = refl;
  normalised = refl;
  guard = refl;
  turn = refl;
}
