-- interp: a control value as an audio signal, along a straight line from one control cycle's value to the
-- next.
use Rattle.std.specs.Prelude.{ℕ, ◌≡◌, ◌+◌, ◌-◌, ◌%◌, ◌==◌, List, length, ℤ, pos, if◌then◌else◌}
use Rattle.cs_base.specs.{Numbers.clamp, declared.resource.Rate.Rate}
use Rattle.cs_signal.specs.{History.ago, History.now, Line.part_way, Operands.argument, Pace.Pace}

-- Sample j of a control cycle, counted from 0, is j + 1 of ksmps parts of the way from the previous cycle's
-- value. This value was the input j + 1 samples ago, and is 0 before the first cycle.
abbrev pub interp_of : Rate → Pace → List ℤ → List (List ℤ) → ℤ
interp_of rate pace init steps =
    let j = (length steps - 1) % pace.ksmps in
    clamp (part_way (ago 0 (j + 1) steps) (now 0 steps) (j + 1) pace.ksmps)

-- the state of the unit: the samples per cycle, the previous cycle's value, and the position of the next
-- sample in its cycle
pub record InterpState : Type 0 where
  pub ksmps : ℕ
  pub before : ℤ
  pub sample : ℕ

-- the initial state
abbrev pub interp_start : Rate → Pace → List ℤ → InterpState
interp_start rate pace init = record { ksmps = pace.ksmps; before = pos 0; sample = 0 }

-- one step: the state afterwards, and the result
abbrev pub interp_step : InterpState → List ℤ → InterpState × ℤ
interp_step s inputs =
    let k = argument inputs 0 in
    let next = (s.sample + 1) % s.ksmps in (
      record { ksmps = s.ksmps; before = if next == 0 then k else s.before; sample = next },
      clamp (part_way s.before k (s.sample + 1) s.ksmps),
    )

-- the state of a unit that has performed these steps
pub record InterpStands (s : InterpState) (rate : Rate) (pace : Pace) (init : List ℤ) (steps : List (List ℤ)) : Type
    0 where
  pub ksmps : s.ksmps ≡ pace.ksmps
  pub sample : s.sample ≡ length steps % pace.ksmps
  pub before : s.before ≡ ago 0 s.sample steps
