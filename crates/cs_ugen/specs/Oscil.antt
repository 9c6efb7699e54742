-- oscil: xamp, xcps, ifn [, iphs] reads a table as a waveform; each point is held until the next.
use Rattle.std.specs.Prelude.{ℕ, ◌*◌, ◌/◌, List, drop, map, ℤ}
use Rattle.cs_base.specs.{Numbers.product_of, declared.resource.Rate.Rate}
use Rattle.cs_signal.specs.{Operands.argument, Pace.Pace, History.last_of}
use Rattle.cs_ugen.specs.{Inputs.before_last, Points.curve_len}
use Rattle.cs_ugen.specs.Phases.{Turning, HasTurned, begun, turn, turned, phase_of}

-- the amplitude of a step, its first argument
abbrev pub amplitude : List ℤ → ℤ
amplitude x = argument x 0

-- the frequency of a step, its second argument
abbrev pub frequency : List ℤ → ℤ
frequency x = argument x 1

-- the points of the table in a step
abbrev pub points : List ℤ → List ℤ
points x = drop 2 x

-- the starting phase in turns: the i-rate argument after the table's number, or 0 if it is omitted
abbrev pub start : List ℤ → ℤ
start settled = argument settled 1

-- the place of a phase in a curve, rounded down
abbrev pub place_at : List ℤ → ℕ → ℕ
place_at curve phase = phase * curve_len curve / turn

-- the point at a phase's place
abbrev pub point_at : List ℤ → ℕ → ℤ
point_at curve phase = argument curve (place_at curve phase)

-- the amplitude times the curve at a phase, for a given way of reading a curve at a phase
abbrev pub wave_by : (List ℤ → ℕ → ℤ) → ℕ → List ℤ → ℤ
wave_by read phase x = product_of (amplitude x) (read (points x) phase)

-- the amplitude times the point at the phase's place
abbrev pub held_wave : ℕ → List ℤ → ℤ
held_wave = wave_by point_at

-- the wave at the phase that all earlier steps have turned to
unfoldable pub oscil_of : Rate → Pace → List ℤ → List (List ℤ) → ℤ
oscil_of rate pace settled inputs =
    held_wave (phase_of rate pace (start settled) (map frequency (before_last inputs))) (last_of inputs)

-- the initial state
abbrev pub oscil_start : Rate → Pace → List ℤ → Turning
oscil_start rate pace settled = begun rate pace (start settled)

-- one step of a wave, for a given way of reading a curve at a phase
abbrev pub wave_step : (List ℤ → ℕ → ℤ) → Turning → List ℤ → Turning × ℤ
wave_step read t x = (turned t (frequency x), wave_by read t.phase x)

-- one step: the state afterwards, and the result
abbrev pub oscil_step : Turning → List ℤ → Turning × ℤ
oscil_step = wave_step point_at

-- the state of a unit that has performed these steps
abbrev pub OscilStands : Turning → Rate → Pace → List ℤ → List (List ℤ) → Type 0
OscilStands t rate pace settled inputs = HasTurned t rate pace (start settled) (map frequency inputs)
