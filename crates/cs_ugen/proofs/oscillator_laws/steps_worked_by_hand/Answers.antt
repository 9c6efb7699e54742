use Rattle.std.proofs.Common.{refl}
use Rattle.cs_ugen.specs.{Oscil.oscil_of, Oscili.oscili_of, Phases.increment, Phases.phase_of, Phases.within_turn}
use Rattle.cs_ugen.specs.{Phasor.phasor_of, Points.between_points, Table.table_of, Tablei.tablei_of}
use Rattle.cs_ugen.proofs.oscillator_laws.steps_worked_by_hand.Goals as goal

pub returns : goal.returns
unfolding oscil_of oscili_of increment phase_of within_turn phasor_of between_points table_of tablei_of
returns c = record {
  ramp = refl;
  backward = refl;
  wave = refl;
  held = refl;
  guard = refl;
  below = refl;
  above = refl;
  between = refl;
}
