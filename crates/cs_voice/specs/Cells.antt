-- Acts on the cells of a bank.
use Rattle.std.specs.Prelude.{ℕ, ℤ, ◌≡◌, ◌<◌, true, List, Option, Some, None, if◌then◌else◌}
use Rattle.cs_base.specs.{Rates.res_rate, declared.resource.Res.Res}
use Rattle.cs_words.specs.{Catalogue.row_of, declared.catalogue.Shape.Shape, declared.catalogue.Space.Space}
use Rattle.cs_words.specs.declared.catalogue.Opcode.{Opcode}
use Rattle.cs_gen.specs.Points.{len_of}
use Rattle.cs_ugen.specs.Points.{is_len}
use Rattle.cs_ir.specs.Resources.{Stock, places_of, reaches, zak_place}
use Rattle.cs_ir.specs.{Validity.has_register, Validity.has_value, declared.op.Act.Act, declared.op.Reach.Reach}
use Rattle.cs_ir.specs.{declared.register.Counts.Counts, declared.register.Reg.Reg}
use Rattle.cs_cells.specs.{Access.Access, declared.footprint.Area.Area}
use Rattle.cs_meaning.specs.Pieces.{Piece}
use Rattle.cs_voice_meaning.specs.{Follows.Kinds, Placing.IsPlaced, Placing.area_of, Placing.cell_count}
use Rattle.cs_machine.specs.{Access.CanSet, declared.state.NoteSetting.NoteSetting, declared.state.State.State}
use Rattle.cs_machine.specs.States.{Does, HasRoom, IsSettingOf, IsStateIn, MayTouch}
use Rattle.cs_base.specs.declared.resource.Res.TheVariants as res
use Rattle.cs_ir.specs.declared.op.Act.TheVariants as acts
use Rattle.cs_words.specs.declared.catalogue.Space.TheVariants as space

-- An act changes a state and cells as its definition says, in every piece to which the setting and the state
-- belong and whose areas are laid out.
abbrev pub DoesOver : NoteSetting → Act → Reg → List Reg → State → (ℕ → ℤ) → State → (ℕ → ℤ) → Type 0
DoesOver at act into from old before new after =
    (areas : List Area) (piece : Piece) (stock : Stock) (kinds : Kinds) (counts : Counts)
    → IsSettingOf at areas piece → IsPlaced areas stock piece → IsStateIn areas piece kinds counts old
    → Does areas piece kinds counts act into from old before new after

-- the same for the act on zak places, with any opcode of a shape
abbrev pub DoesZak : NoteSetting → Shape → Reach → Reg → List Reg → State → (ℕ → ℤ) → State → (ℕ → ℤ) → Type 0
DoesZak at s reach into from old before new after =
    (opcode : Opcode) → (row_of opcode).shape ≡ s → DoesOver at (acts.Zak opcode reach) into from old before new after

-- Areas of values have as many cells as a value has in a control cycle of `ksmps` frames.
pub record AreSized (areas : List Area) (ksmps : ℕ) : Type 0 where
  pub frames : 0 < ksmps
  pub cells : (g : Res) (area : Area) → area_of areas g ≡ Some area → has_value g ≡ true
      → area.length ≡ cell_count ksmps (res_rate g)

-- the cells of each zak place that a unit may reach are allowed
abbrev pub MayReach : (ℕ → Type 0) → ℕ → NoteSetting → Space → Reach → Type 0
MayReach allowed count at s reach = (n : ℕ) → n < places_of at.spaces s → reaches reach n ≡ true
    → MayTouch allowed count at.layout.now (zak_place s n)

-- A register may name an audio zak place to mix into: the register exists, the buffer is large enough for a
-- row, areas have their cells, and each place within reach may be read and written.
pub record CanMix (access : Access) (at : NoteSetting) (reach : Reach) (number : Reg) (s : State) : Type 0 where
  pub register : has_register s.regs.counts number ≡ true
  pub room : HasRoom s
  pub sized : AreSized at.layout.now s.regs.ksmps
  pub read : MayReach access.can_get access.count at space.Audio reach
  pub write : MayReach access.can_set access.count at space.Audio reach

-- the area of the live table with a number, if it is within reach
abbrev pub stored_area : List Area → Reach → Option ℕ → Option Area
stored_area areas reach None = None
stored_area areas reach (Some n) = if reaches reach n then area_of areas (res.Table n) else None

-- The cells of a table may be stored into.
pub record IsStorable (access : Access) (area : Area) : Type 0 where
  pub power : is_len (len_of area.length) ≡ true
  pub write : CanSet access area

-- the cells of each live table within reach may be stored into
abbrev pub MayStore : Access → List Area → Reach → Type 0
MayStore access areas reach =
    (n : ℕ) (area : Area) → reaches reach n ≡ true → area_of areas (res.Table n) ≡ Some area → IsStorable access area
