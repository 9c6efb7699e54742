-- phasor: xcps [, iphs] is a ramp from 0 to 1, once per turn.
use Rattle.std.specs.Prelude.{ℕ, ◌/◌, List, map, ℤ, pos}
use Rattle.cs_base.specs.declared.resource.Rate.{Rate}
use Rattle.cs_signal.specs.{Operands.argument, Pace.Pace}
use Rattle.cs_ugen.specs.Inputs.{before_last}
use Rattle.cs_ugen.specs.Phases.{Turning, HasTurned, begun, turned, phase_of}

-- the frequency of a step: its first argument
abbrev pub frequency : List ℤ → ℤ
frequency x = argument x 0

-- the starting phase in turns: the i-rate argument, or 0 if it is omitted
abbrev pub start : List ℤ → ℤ
start settled = argument settled 0

-- a phase in 65,536ths of a turn
abbrev pub ramp : ℕ → ℤ
ramp phase = pos (phase / 256)

-- the ramp at the phase that all earlier steps have turned to
unfoldable pub phasor_of : Rate → Pace → List ℤ → List (List ℤ) → ℤ
phasor_of rate pace settled inputs =
    ramp (phase_of rate pace (start settled) (map frequency (before_last inputs)))

-- the initial state
abbrev pub phasor_start : Rate → Pace → List ℤ → Turning
phasor_start rate pace settled = begun rate pace (start settled)

-- one step: the state afterwards, and the result
abbrev pub phasor_step : Turning → List ℤ → Turning × ℤ
phasor_step t x = (turned t (frequency x), ramp t.phase)

-- the state of a unit that has performed these steps
abbrev pub PhasorStands : Turning → Rate → Pace → List ℤ → List (List ℤ) → Type 0
PhasorStands t rate pace settled inputs = HasTurned t rate pace (start settled) (map frequency inputs)
