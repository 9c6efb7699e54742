-- What it means that a voice performs a note.
use Rattle.std.specs.Prelude.{ℕ, ℤ, ◌≡◌, ◌≤◌, List, length, Some, None}
use Rattle.cs_base.specs.{Rates.res_rate, declared.resource.Rate.Rate, declared.resource.Res.Res}
use Rattle.cs_ir.specs.Waves.{Wave, constant}
use Rattle.cs_cells.specs.{Areas.word_count, Cells.Cells, Cells.cell, declared.footprint.Area.Area}
use Rattle.cs_meaning.specs.{Core.Block, Initialising.init_block, Performing.perf_block}
use Rattle.cs_meaning.specs.Notes.{Note, Path, reg, start, new_note, moved_to}
use Rattle.cs_meaning.specs.Plain.{Piece, Plain, plain, fresh, next_cycle}
use Rattle.cs_code.specs.Means.{RegisterPlan}
use Rattle.cs_voice_meaning.specs.{Placing.area_of, Placing.wave_of, Placing.HasArea, Follows.Kinds, Follows.SameUnit}
use Rattle.cs_ugen.specs.Generators.{pace_of}
use Rattle.cs_voice_meaning.specs.Voices.{Sheet, Sounding, initialised, voice_of, performed, left_by}
use Rattle.cs_ir.specs.declared.register.Kind.TheVariants as kind

-- A note of some statements after it has begun, with the values `shared` of what notes share.
abbrev pub begun_note : Piece → Block → (Res → Wave) → Note Plain
begun_note piece body shared = init_block (plain piece) start body (new_note (fresh shared))

-- a note after its next cycle, at whose start notes share these values
abbrev pub next_note : Piece → Block → (Res → Wave) → Note Plain → Note Plain
next_note piece body shared t = perf_block (plain piece) start body (moved_to (next_cycle shared t.world) t)

-- cells hold the values of what notes share, for each resource that has an area
abbrev pub Hold : List Area → (ℕ → ℤ) → (Res → Wave) → Type 0
Hold areas cells shared = (g : Res) → HasArea areas g → wave_of (area_of areas g) (res_rate g) cells ≡ shared g

-- A voice represents a note that plays: it has the same local variables and kept values, each unit is in the
-- state to which all its inputs so far lead, and the output is the same.
pub record IsVoiceOf (s : Sheet) (plan : RegisterPlan) (kinds : Kinds) (v : Sounding) (t : Note Plain) : Type 0 where
  pub sheet : v.sheet ≡ s
  pub locals : (r : Rate) (n : ℕ) → v.regs (reg r n) ≡ t.locals (reg r n)
  pub kept : (p : Path) (n : ℕ) → plan p ≡ Some n
      → v.regs (record { kind = kind.Kept; offset = n }) ≡ constant (t.kept p)
  pub units : (u : ℕ) → SameUnit (pace_of s.piece.head) (kinds u) (v.units u) (t.world.units u)
  pub delays : v.delays ≡ t.world.delays
  pub outs : v.outs ≡ t.world.outs
  pub ended : v.ended ≡ t.world.ended
  pub plays : t.world.cause ≡ None

-- The code that begins a voice, on cells that hold what notes share, does what the statements do as the note
-- begins: it is refused for the same cause or leaves a voice of the note, schedules the same notes, and
-- leaves in the cells what they share then.
pub record Begins (s : Sheet) (body : Block) (plan : RegisterPlan) (kinds : Kinds) (before : ℕ → ℤ)
    (shared : Res → Wave) : Type
    0 where
  pub cause : (initialised s before).world.cause ≡ (begun_note s.piece body shared).world.cause
  pub asks : (initialised s before).world.asks ≡ (begun_note s.piece body shared).world.asks
  pub cells : Hold s.areas (initialised s before).world.shared (begun_note s.piece body shared).world.shared
  pub voice : (begun_note s.piece body shared).world.cause ≡ None
      → IsVoiceOf s plan kinds (voice_of s (initialised s before)) (begun_note s.piece body shared)

-- A cycle of a voice of the note, on cells that hold what notes share, leaves a voice of the note after its
-- next cycle, and in the cells what notes share then.
pub record GoesOn (s : Sheet) (body : Block) (plan : RegisterPlan) (kinds : Kinds) (v : Sounding) (t : Note Plain)
    (c : Cells)
    (shared : Res → Wave) : Type 0 where
  pub voice : IsVoiceOf s plan kinds (performed v c) (next_note s.piece body shared t)
  pub cells : Hold s.areas (cell (left_by v c)) (next_note s.piece body shared t).world.shared

-- Voices that play from a sheet perform notes of these statements, from their beginning through every cycle,
-- whatever other notes do to the shared resources in between. `plan` says in which registers the values of a
-- note are, and `kinds` what its units are.
pub record Perform (plan : RegisterPlan) (kinds : Kinds) (s : Sheet) (body : Block) : Type 0 where
  pub begins : (cells : ℕ → ℤ) (shared : Res → Wave) → Hold s.areas cells shared → Begins s body plan kinds cells shared
  pub goes_on : (v : Sounding) (t : Note Plain) (c : Cells) (shared : Res → Wave) → word_count s.areas ≤ length c
      → IsVoiceOf s plan kinds v t → Hold s.areas (cell c) shared → GoesOn s body plan kinds v t c shared
