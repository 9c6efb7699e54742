-- oscili: xamp, xcps, ifn [, iphs] reads a table as a waveform, with straight lines between its points.
use Rattle.std.specs.Prelude.{ℕ, ◌*◌, ◌/◌, ◌%◌, List, map, ℤ}
use Rattle.cs_base.specs.declared.resource.Rate.{Rate}
use Rattle.cs_signal.specs.{Pace.Pace, History.last_of}
use Rattle.cs_ugen.specs.{Inputs.before_last, Points.curve_len, Points.between_points}
use Rattle.cs_ugen.specs.Oscil.{frequency, place_at, start, wave_by, wave_step}
use Rattle.cs_ugen.specs.Phases.{Turning, HasTurned, begun, turn, phase_of}

-- the distance of a phase from its place, in 65,536ths of the way to the next place
abbrev pub fraction_at : List ℤ → ℕ → ℕ
fraction_at curve phase = phase * curve_len curve % turn / 256

-- the curve at a phase, on the line between two points
abbrev pub line_at : List ℤ → ℕ → ℤ
line_at curve phase = between_points curve (place_at curve phase) (fraction_at curve phase)

-- the amplitude times the curve at a phase
abbrev pub wave : ℕ → List ℤ → ℤ
wave = wave_by line_at

-- the wave at the phase that all earlier steps have turned to
unfoldable pub oscili_of : Rate → Pace → List ℤ → List (List ℤ) → ℤ
oscili_of rate pace settled inputs =
    wave (phase_of rate pace (start settled) (map frequency (before_last inputs))) (last_of inputs)

-- the initial state
abbrev pub oscili_start : Rate → Pace → List ℤ → Turning
oscili_start rate pace settled = begun rate pace (start settled)

-- one step: the state afterwards, and the result
abbrev pub oscili_step : Turning → List ℤ → Turning × ℤ
oscili_step = wave_step line_at

-- the state of a unit that has performed these steps
abbrev pub OsciliStands : Turning → Rate → Pace → List ℤ → List (List ℤ) → Type 0
OsciliStands t rate pace settled inputs = HasTurned t rate pace (start settled) (map frequency inputs)
