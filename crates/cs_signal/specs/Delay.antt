-- delay: its input from a fixed number of samples ago.
use Rattle.std.specs.Prelude.{ℕ, ◌≡◌, max, List, [], ◌∷◌, ◌++◌, length, drop, replicate, ℤ, pos}
use Rattle.cs_base.specs.declared.resource.Rate.{Rate}
use Rattle.cs_signal.specs.{History.ago, History.signal, Operands.argument, Pace.Pace, Pace.samples_of}

-- the length of a delay in samples: its time, but at least one
abbrev pub delay_length : Pace → ℤ → ℕ
delay_length pace time = max 1 (samples_of pace time)

-- the input `delay_length` samples ago, or 0 if there were fewer samples
abbrev pub delay_of : Rate → Pace → List ℤ → List (List ℤ) → ℤ
delay_of rate pace init steps = ago 0 (delay_length pace (argument init 0)) steps

-- the state of the unit is the list of its stored values, oldest first; its length is the length of the delay
abbrev pub delay_start : Rate → Pace → List ℤ → List ℤ
delay_start rate pace init = replicate (delay_length pace (argument init 0)) (pos 0)

-- one step: the oldest value is the result, and the input is appended
abbrev pub delay_step : List ℤ → List ℤ → List ℤ × ℤ
delay_step line inputs = (drop 1 line ++ argument inputs 0 ∷ [], argument line 0)

-- the state of a unit that has performed these steps
abbrev pub DelayStands : List ℤ → Rate → Pace → List ℤ → List (List ℤ) → Type 0
DelayStands line rate pace init steps =
    line ≡ drop (length steps) (delay_start rate pace init ++ signal 0 steps)
