-- The facts that the walk along a section's turns relies on.
use Rattle.std.specs.Prelude.{◌≡◌, ℕ, ◌<◌, ◌≤◌, List, [], ◌∷◌, Option, Some, None, true}
use Rattle.cs_score.specs.{Ranges.beats_end, Ranges.HasRange, declared.statement.ScoreStmt.ScoreStmt}
use Rattle.cs_tempo.specs.{declared.plot.EventAct.EventAct, inner.Clock.Pace, Order.has_turn, Plot.SectionSetting}
use Rattle.cs_tempo.specs.Sections.{cycle_at, reach_of}

-- the setting of a section, from its pace
abbrev pub in_section : Pace → ℕ → ℕ → SectionSetting
in_section pace offset cycles =
    record { head = pace.head; tempo = pace.tempo; offset = offset; cycles = cycles }

-- a beat whose cycle is within a section of `cycles` cycles, or at its end
pub record HasEnd (pace : Pace) (cycles at : ℕ) : Type 0 where
  pub beat : at < beats_end
  pub cycle : cycle_at pace.head pace.tempo at ≤ cycles

-- an optional action as a list
abbrev pub Acts : Option EventAct → List EventAct → Type 0
Acts None acts = acts ≡ []
Acts (Some act) acts = acts ≡ act ∷ []

-- a statement with a turn, in range, in a section of `cycles` cycles
pub record IsTurnIn (pace : Pace) (cycles : ℕ) (s : ScoreStmt) : Type 0 where
  pub range : HasRange s.what
  pub reach : reach_of pace.head pace.tempo s.what ≤ cycles
  pub turn : has_turn s.what ≡ true
