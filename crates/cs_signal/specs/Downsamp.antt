-- downsamp: an audio signal as a control value, the first sample of each control cycle.
use Rattle.std.specs.Prelude.{List, ℤ}
use Rattle.cs_base.specs.declared.resource.Rate.{Rate}
use Rattle.cs_signal.specs.{Operands.argument, Pace.Pace, Plain.plain_of, Plain.plain_step}

-- the input of a step, which is a control cycle; the input is the cycle's first sample
abbrev pub downsamp_value : List ℤ → ℤ
downsamp_value inputs = argument inputs 0

-- the formula of the opcode
abbrev pub downsamp_of : Rate → Pace → List ℤ → List (List ℤ) → ℤ
downsamp_of = plain_of downsamp_value

-- one step: the result is its input
abbrev pub downsamp_step : Unit {0} → List ℤ → Unit {0} × ℤ
downsamp_step = plain_step downsamp_value
