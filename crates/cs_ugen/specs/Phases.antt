-- A phase is counted in 2^24ths of a turn. It depends on the frequencies of all steps so far.
use Rattle.std.specs.Prelude.{◌≡◌, ℕ, ◌+◌, ◌*◌, ◌%◌, List, map, ℤ, pos, ◌+ℤ◌, ◌*ℤ◌, unsigned_abs}
use Rattle.std.specs.Int.{int_rem_euclid}
use Rattle.cs_base.specs.{Numbers.floor_div, Numbers.total, declared.resource.Rate.Rate}
use Rattle.cs_signal.specs.Pace.{Pace}
use Rattle.cs_base.specs.declared.resource.Rate.TheVariants as rate

-- the number of parts of a turn: 2^24
abbrev pub turn : ℕ
turn = 16777216

-- a number of parts, forward or backward, reduced to within one turn
unfoldable pub within_turn : ℤ → ℕ
within_turn parts = unsigned_abs (int_rem_euclid parts (pos turn))

-- the phase increment of a frequency in parts of a turn, rounded down: per frame at a-rate, per control
-- cycle otherwise
unfoldable pub increment : Rate → Pace → ℤ → ℤ
increment rate.Init pace cps = floor_div (cps *ℤ pos (256 * pace.ksmps)) (pos pace.sr)
increment rate.Control pace cps = floor_div (cps *ℤ pos (256 * pace.ksmps)) (pos pace.sr)
increment rate.Audio pace cps = floor_div (cps *ℤ pos 256) (pos pace.sr)

-- the phase of a step: the start, in turns, plus the increments of all steps before it
unfoldable pub phase_of : Rate → Pace → ℤ → List ℤ → ℕ
phase_of rate pace start frequencies =
    within_turn (start *ℤ pos 256 +ℤ total (map (increment rate pace) frequencies))

-- the state of a unit that turns: its rate and pace, and the phase of its next step
pub record Turning : Type 0 where
  pub rate : Rate
  pub pace : Pace
  pub phase : ℕ

-- the state before the first step
abbrev pub begun : Rate → Pace → ℤ → Turning
begun rate pace start = record { rate = rate; pace = pace; phase = within_turn (start *ℤ pos 256) }

-- the state with another phase
abbrev pub at_phase : Turning → ℕ → Turning
at_phase t phase = record { rate = t.rate; pace = t.pace; phase = phase }

-- the state after one more step at this frequency
abbrev pub turned : Turning → ℤ → Turning
turned t cps = at_phase t ((t.phase + within_turn (increment t.rate t.pace cps)) % turn)

-- a unit has turned at these frequencies, one per step
pub record HasTurned (t : Turning) (rate : Rate) (pace : Pace) (start : ℤ) (frequencies : List ℤ) : Type 0 where
  pub rate_is : t.rate ≡ rate
  pub pace_is : t.pace ≡ pace
  pub phase_is : t.phase ≡ phase_of rate pace start frequencies
