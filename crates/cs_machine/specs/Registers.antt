-- Registers: the value of each of a note's registers over a control cycle.
use Rattle.std.specs.Prelude.{ℕ, ◌≡◌, ℤ, List, [], ◌∷◌, map, slice_index_or}
use Rattle.std.specs.List.{range_with_len}
use Rattle.cs_ir.specs.{Machine.put, Waves.Wave, Waves.constant, Waves.held, declared.register.Counts.Counts}
use Rattle.cs_ir.specs.{declared.register.Kind.Kind, declared.register.Reg.Reg}
use Rattle.cs_ir.specs.Registers.{at_kind, kind_number, rate_at}
use Rattle.cs_machine.specs.Rows.{row_wave, row_of}
use Rattle.cs_signal.specs.Operands.{argument}
use Rattle.cs_ir.specs.declared.register.Kind.TheVariants as kind

-- The numbers held by the registers of each kind that isn't of audio rate, a row for each audio register, the
-- number of registers of each kind, and the number of frames of a cycle.
pub record RegisterFile : Type 0 where
  pub held : List (List ℤ)
  pub sounds : List (List (List ℤ))
  pub counts : Counts
  pub ksmps : ℕ

-- register number n of a kind
abbrev pub register : Kind → ℕ → Reg
register k n = record { kind = k; offset = n }

-- the value of a register that holds one number, the same at each frame
abbrev pub one_of : List (List ℤ) → ℕ → ℕ → Wave
one_of held k n = constant (argument (slice_index_or held k []) n)

-- the value of a register that is a row
abbrev pub row_in : List (List (List ℤ)) → ℕ → ℕ → Wave
row_in sounds k n = row_wave (slice_index_or (slice_index_or sounds k []) n [])

-- the value of register number n of a kind
abbrev pub held_at : List (List ℤ) → List (List (List ℤ)) → Kind → ℕ → Wave
held_at held sounds kind.LocalAudio n = row_in sounds 0 n
held_at held sounds kind.TemporaryAudio n = row_in sounds 1 n
held_at held sounds k n = one_of held (kind_number k) n

-- the value of each register, from numbers and rows
abbrev pub regs_of : List (List ℤ) → List (List (List ℤ)) → Reg → Wave
regs_of held sounds q = held_at held sounds q.kind q.offset

-- the value of each register of a file
abbrev pub values : RegisterFile → Reg → Wave
values f = regs_of f.held f.sounds

-- one register was written: it holds the value as its rate stores it, and no other register has changed
pub record IsWritten (old : RegisterFile) (into : Reg) (w : Wave) (new : RegisterFile) : Type 0 where
  pub values : values new ≡ put (values old) into (held old.ksmps (rate_at into) w)
  pub counts : new.counts ≡ old.counts
  pub ksmps : new.ksmps ≡ old.ksmps

-- the kinds of registers that hold one number
abbrev pub held_kinds : List Kind
held_kinds =
    kind.LocalInit ∷ kind.LocalControl ∷ kind.Kept ∷ kind.TemporaryInit ∷ kind.TemporaryControl ∷ []

-- the kinds of audio registers
abbrev pub sound_kinds : List Kind
sound_kinds = kind.LocalAudio ∷ kind.TemporaryAudio ∷ []

-- a file with the same number of registers, and these values
abbrev pub filled : RegisterFile → (Reg → Wave) → RegisterFile
filled f w = record f {
  held = map (λ k. map (λ n. w (register k n) 0) (range_with_len 0 (at_kind f.counts.registers k))) held_kinds;
  sounds = map (λ k. map (λ n. row_of f.ksmps (w (register k n))) (range_with_len 0 (at_kind f.counts.registers k)))
      sound_kinds;
}
