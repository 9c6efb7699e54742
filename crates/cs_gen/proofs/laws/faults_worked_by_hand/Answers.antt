use Rattle.std.proofs.Common.{refl}
use Rattle.cs_gen.specs.Faults.{table_fault, is_size, lengths, is_gen, has_negative_length}
use Rattle.cs_gen.proofs.laws.faults_worked_by_hand.Goals as goal

pub returns : goal.returns
unfolding table_fault is_size lengths is_gen has_negative_length
returns c = record {
  three_points = refl;
  no_size = (refl, refl, refl, refl);
  unknown = (refl, refl);
  negative = refl;
  unfinished = refl;
  size_first = refl;
  size_before_length = refl;
  unknown_before_length = refl;
  index = (refl, refl, refl, refl);
}
