-- The properties of a plot on which a performer may rely: the score exceeded no limit.
use Rattle.std.specs.Prelude.{◌≡◌, ℕ, ◌+◌, ◌*◌, ◌≤◌, count_by, length, slice_get, Some, None, pos, All}
use Rattle.std.specs.List.Sorted.{IsNonDecreasingBy}
use Rattle.cs_base.specs.Limits.{greatest_field, most_events, most_notes, most_wav_bytes}
use Rattle.cs_base.specs.declared.head.Head.{Head}
use Rattle.cs_gen.specs.Faults.{table_fault}
use Rattle.cs_score.specs.Ranges.{IsInstrument, IsTableNumber}
use Rattle.cs_tempo.specs.{declared.plot.EventAct.EventAct, declared.plot.Plot.Plot, Limits.cycles_in, Limits.is_active}
use Rattle.cs_tempo.specs.declared.plot.EventAct.TheVariants as act

-- A start has the number of an instrument, and 3 to 100 fields with this number as p1. A table has the number
-- of a table and no fault, so its size is 2 to 65,537.
abbrev pub IsActInRange : EventAct → Type 0
IsActInRange (act.Start instr cycles fields) =
    IsInstrument instr × (3 ≤ length fields) × (length fields ≤ greatest_field)
    × (slice_get fields 0 ≡ Some (pos (instr * 65536)))
IsActInRange (act.Table number size gen args) = IsTableNumber number × (table_fault size gen args ≡ None)

-- The sound file is no longer than allowed. The events are in the order of their cycles, at most as many as a
-- score may have statements. No more notes are active in any cycle than allowed, and each note ends within
-- the plot.
pub record IsPerformable (head : Head) (plot : Plot) : Type 0 where
  pub bytes : plot.cycles * head.ksmps * head.nchnls * 2 ≤ most_wav_bytes
  pub in_order : IsNonDecreasingBy (λ e. e.cycle) plot.events
  pub count : length plot.events ≤ most_events
  pub few : (c : ℕ) → count_by (is_active c) plot.events ≤ most_notes
  pub within : All (λ e. e.cycle + cycles_in e.act ≤ plot.cycles) plot.events
  pub each : All (λ e. IsActInRange e.act) plot.events
