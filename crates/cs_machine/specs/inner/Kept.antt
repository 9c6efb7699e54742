-- The invariants of registers and channels as they lie in memory.
use Rattle.std.specs.Prelude.{◌≡◌, ◌<◌, ◌≤◌, ◌-◌, ℕ, pos, ℤ, Bool, true, false, List, [], length, map, replicate}
use Rattle.std.specs.Prelude.{slice_index_or}
use Rattle.cs_base.specs.Rates.{is_audio}
use Rattle.cs_signal.specs.Operands.{argument}
use Rattle.cs_ir.specs.Registers.{at_kind, kind_number, rate_of}
use Rattle.cs_ir.specs.{declared.register.Counts.Counts, declared.register.Kind.Kind}

-- each of these rows has a number for each frame
abbrev pub AreRows : ℕ → List (List ℤ) → Type 0
AreRows ksmps rows = (n : ℕ) → n < length rows → length (slice_index_or rows n []) ≡ ksmps

-- the places of a row from j on are as they were before
abbrev pub Ends : ℕ → List ℤ → List ℤ → Type 0
Ends j before after = (i : ℕ) → j ≤ i → argument after i ≡ argument before i

-- there are as many registers of each kind as are counted, and each audio row has a number for each frame
pub record AreKept (ones : List (List ℤ)) (rows : List (List (List ℤ))) (counts : Counts) (ksmps : ℕ) : Type 0 where
  pub kinds : length ones ≡ 5
  pub sound_kinds : length rows ≡ 2
  pub held : (k : Kind) → is_audio (rate_of k) ≡ false
      → length (slice_index_or ones (kind_number k) []) ≡ at_kind counts.registers k
  pub sounds : (k : Kind) → is_audio (rate_of k) ≡ true
      → length (slice_index_or rows (kind_number k - 5) []) ≡ at_kind counts.registers k
  pub long : (k : ℕ) → AreRows ksmps (slice_index_or rows k [])

-- a zero for each register of each of these kinds
abbrev pub zeros_of : Counts → List Kind → List (List ℤ)
zeros_of counts kinds = map (λ k. replicate (at_kind counts.registers k) (pos 0)) kinds

-- the samples of a channel: its row if a note has written to it, otherwise zeros
abbrev pub shown : Bool → List ℤ → List ℤ
shown true row = row
shown false row = replicate (length row) (pos 0)
