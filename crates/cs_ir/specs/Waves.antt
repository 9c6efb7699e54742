-- Values over a control cycle.
use Rattle.std.specs.Prelude.{ℕ, ℤ, pos, List, nat_lt, map, slice_index_or, if◌then◌else◌}
use Rattle.cs_base.specs.declared.resource.Rate.{Rate}
use Rattle.cs_base.specs.declared.resource.Rate.TheVariants as rate
use Rattle.cs_words.specs.declared.sign.BinOp.{BinOp}
use Rattle.cs_ir.specs.Values.{combined, holds}

-- The values of a signal over a control cycle, by frame.
abbrev pub Wave : Type 0
Wave = ℕ → ℤ

-- the signal that is 0 at each frame
abbrev pub silence : Wave
silence = λ j. pos 0

-- a signal that has the same value at each frame
abbrev pub constant : ℤ → Wave
constant z = λ j. z

-- A signal as it is stored at a rate: one number for the complete cycle; or, at a-rate, one number for each
-- frame, and 0 beyond.
abbrev pub held : ℕ → Rate → Wave → Wave
held ksmps rate.Audio w = λ j. if nat_lt j ksmps then w j else pos 0
held ksmps rate.Control w = λ j. w 0
held ksmps rate.Init w = λ j. w 0

-- the first argument at i-rate, for actions that are performed once as the note begins; otherwise the second,
-- for actions of each cycle
abbrev pub if_init : {A : Type 0} → Rate → A → A → A
if_init rate.Init once each = once
if_init rate.Control once each = each
if_init rate.Audio once each = each

-- two signals combined by an operator, frame by frame
abbrev pub both : BinOp → Wave → Wave → Wave
both o w v = λ j. combined o (w j) (v j)

-- a choice between two signals, frame by frame
abbrev pub chosen : Wave → Wave → Wave → Wave
chosen c w v = λ j. if holds (c j) then w j else v j

-- the signal at an index, counted from 0
abbrev pub operand : ℕ → List Wave → Wave
operand n ws = slice_index_or ws n silence

-- the values of signals when the note begins
abbrev pub first_values : List Wave → List ℤ
first_values ws = map (λ w. w 0) ws
