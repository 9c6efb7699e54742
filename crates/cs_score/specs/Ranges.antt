-- The ranges of a statement's values, which the layers above rely on.
use Rattle.std.specs.Prelude.{ℕ, ◌≡◌, ◌+◌, ◌<◌, ◌≤◌, ◌≤ℤ◌, pos, List, [], ◌∷◌, length, Option, Some, None}
use Rattle.cs_base.specs.Limits.{greatest_instrument, greatest_table}
use Rattle.cs_score.specs.declared.field.InstrumentNumber.{InstrumentNumber}
use Rattle.cs_gen.specs.Faults.{table_fault}
use Rattle.cs_score.specs.declared.statement.TempoPoint.{TempoPoint}
use Rattle.cs_score.specs.{declared.statement.ScoreWhat.ScoreWhat, declared.statement.ScoreStmt.ScoreStmt}
use Rattle.cs_score.specs.declared.statement.ScoreWhat.TheVariants.{Note, Hold, Stop, Table, Extend, Tempo, Section}

-- 10,000,000 beats in millionths, the exclusive upper bound of beats
abbrev pub beats_end : ℕ
beats_end = 10000000000000

-- the range of instrument numbers
abbrev pub IsInstrument : ℕ → Type 0
IsInstrument n = (1 ≤ n) × (n ≤ greatest_instrument)

-- the number of an instrument, or 1 if there is none
abbrev pub number_or_one : Option InstrumentNumber → ℕ
number_or_one None = 1
number_or_one (Some instr) = instr.number

-- the range of table numbers
abbrev pub IsTableNumber : ℕ → Type 0
IsTableNumber n = (1 ≤ n) × (n ≤ greatest_table)

-- a point of a tempo: its beat is in range, and its tempo is 1 to 60,000 beats per minute
pub record IsTempoPoint (p : TempoPoint) : Type 0 where
  pub beat : p.beat < beats_end
  pub slow : 1000000 ≤ p.tempo
  pub fast : p.tempo ≤ 60000000000

-- points that don't fall from a beat on, each in range
abbrev pub AreRising : ℕ → List TempoPoint → Type 0
AreRising from [] = Unit {0}
AreRising from (p ∷ ps) = (from ≤ p.beat) × IsTempoPoint p × AreRising p.beat ps

-- the points of a tempo: at least one, the first at beat 0, and none before the previous one
abbrev pub AreTempoPoints : List TempoPoint → Type 0
AreTempoPoints [] = ⊥
AreTempoPoints (p ∷ ps) = (p.beat ≡ 0) × AreRising 0 (p ∷ ps)

-- the ranges of a statement's values
abbrev pub HasRange : ScoreWhat → Type 0
HasRange (Note instr at len more) = IsInstrument instr × (at + len < beats_end) × (length more ≤ 97)
HasRange (Hold instr at given more) = IsInstrument instr × (at < beats_end) × (given ≤ℤ pos 0) × (length more ≤ 97)
HasRange (Stop instr at) = IsInstrument instr × (at < beats_end)
HasRange (Table number at size gen args) = IsTableNumber number × (at < beats_end) × (table_fault size gen args ≡ None)
HasRange (Extend at) = at < beats_end
HasRange (Tempo points) = AreTempoPoints points
HasRange Section = Unit {0}

-- the values of a statement with its line are in range
abbrev pub IsInRange : ScoreStmt → Type 0
IsInRange s = HasRange s.what
