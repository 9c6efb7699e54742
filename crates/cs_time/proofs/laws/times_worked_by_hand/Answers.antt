use Rattle.std.proofs.Common.{refl}
use Rattle.cs_time.specs.Time.{time_along, part_of, ramp_time, beat_length, cycle_of, seconds_of}
use Rattle.cs_time.proofs.laws.times_worked_by_hand.Goals as goal

pub returns-clause-middle : goal.returns-clause-middle
unfolding time_along part_of ramp_time beat_length
returns-clause-middle c = refl

pub returns-clause-last : goal.returns-clause-last
unfolding time_along part_of ramp_time beat_length
returns-clause-last c = refl

pub returns-clause-jump : goal.returns-clause-jump
unfolding time_along part_of ramp_time beat_length
returns-clause-jump c = refl

pub returns-clause-steady : goal.returns-clause-steady
unfolding time_along part_of ramp_time beat_length
returns-clause-steady c = refl

pub returns-clause-cycles : goal.returns-clause-cycles
unfolding cycle_of
returns-clause-cycles c = (refl, refl)

pub returns-clause-seconds : goal.returns-clause-seconds
unfolding seconds_of
returns-clause-seconds c = (refl, refl)
