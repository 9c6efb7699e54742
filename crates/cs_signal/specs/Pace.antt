-- Times converted to steps of a unit.
use Rattle.std.specs.Prelude.{ℕ, ◌-◌, ◌*◌, ◌^◌, min, List, length, ℤ, pos, negsuc, ◌*ℤ◌}
use Rattle.cs_base.specs.{Numbers.floor_div, Numbers.one, Heads.Header, declared.resource.Rate.Rate}
use Rattle.cs_base.specs.declared.resource.Rate.TheVariants as rate

-- the numbers of a piece's header that units need: frames per second, and frames per control cycle
pub record Pace : Type 0 where
  pub sr : ℕ
  pub ksmps : ℕ

-- the pace of a piece with this header
abbrev pub pace_of : Header → Pace
pace_of header = record { sr = header.sr; ksmps = header.ksmps }

-- an integer as a count: a negative one counts as 0
abbrev pub from_zero : ℤ → ℕ
from_zero (pos n) = n
from_zero (negsuc n) = 0

-- a time in samples, rounded down
abbrev pub samples_of : Pace → ℤ → ℕ
samples_of pace time = from_zero (floor_div (time *ℤ pos pace.sr) one)

-- a time in control cycles, rounded down
abbrev pub cycles_of : Pace → ℤ → ℕ
cycles_of pace time = from_zero (floor_div (time *ℤ pos pace.sr) (pos (65536 * pace.ksmps)))

-- a time in steps: a step is a sample at a-rate, and a control cycle otherwise
abbrev pub steps_of : Rate → Pace → ℤ → ℕ
steps_of rate.Init pace time = cycles_of pace time
steps_of rate.Control pace time = cycles_of pace time
steps_of rate.Audio pace time = samples_of pace time

-- the largest step number; counting stays there
abbrev pub last_number : ℕ
last_number = 2 ^ 63 - 1

-- the number of the step that comes after n other steps
abbrev pub number_after : ℕ → ℕ
number_after n = min n last_number

-- the number of the last of these steps; the first has number 0
abbrev pub number_of_last : {A : Type 0} → List A → ℕ
number_of_last steps = number_after (length steps - 1)
