-- Rows: a number for each frame of a control cycle.
use Rattle.std.specs.Prelude.{ℕ, ◌≡◌, ◌<◌, List, length, map, ℤ}
use Rattle.std.specs.List.{range_with_len}
use Rattle.cs_ir.specs.Waves.{Wave}
use Rattle.cs_signal.specs.Operands.{argument}

-- a row as a value over a cycle: its numbers, and 0 after the last
abbrev pub row_wave : List ℤ → Wave
row_wave row = λ j. argument row j

-- the first n frames of a value as a row
abbrev pub row_of : ℕ → Wave → List ℤ
row_of n w = map w (range_with_len 0 n)

-- the first n places of a row have the value w at these frames
abbrev pub Begins : ℕ → Wave → List ℤ → Type 0
Begins n w row = (j : ℕ) → j < n → argument row j ≡ w j

-- each place of a row has the value w at its frame
abbrev pub HasFrames : Wave → List ℤ → Type 0
HasFrames w row = Begins (length row) w row
