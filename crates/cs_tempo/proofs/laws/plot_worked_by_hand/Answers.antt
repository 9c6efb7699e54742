use Rattle.std.proofs.Common.{refl}
use Rattle.cs_tempo.specs.{Order.in_order, Order.put, Pairing.ending_stop, Pairing.held}
use Rattle.cs_tempo.specs.Plot.{acts_of, events_along, events_from}
use Rattle.cs_tempo.specs.Sections.{cycle_at, length_of, sections_of, tempo_of}
use Rattle.cs_time.specs.Time.{cycle_of, seconds_of, time_along, part_of, ramp_time, beat_length}
use Rattle.cs_tempo.proofs.laws.plot_worked_by_hand.Goals as goal

pub returns : goal.returns
unfolding in_order put ending_stop held acts_of events_along events_from cycle_at length_of sections_of tempo_of
    cycle_of seconds_of time_along part_of ramp_time beat_length
returns c = λ head sr ksmps. rw sr (rw ksmps refl)
