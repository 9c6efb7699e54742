-- What a unit of a note does in a control cycle, from what the note stores of it.
use Rattle.std.specs.Prelude.{ℕ, ℤ, ◌≡◌, Bool, true, not, ◌||◌, List, length, unsigned_abs, Option, Some, None}
use Rattle.std.specs.Prelude.{if◌then◌else◌}
use Rattle.cs_base.specs.declared.resource.Rate.{Rate}
use Rattle.cs_words.specs.declared.catalogue.Opcode.{Opcode}
use Rattle.cs_signal.specs.Operands.{argument}
use Rattle.cs_ugen.specs.{Units.IsUnitOpcode, Units.moving_count, Units.opcode_of, declared.unit.UnitState.UnitState}
use Rattle.cs_ir.specs.{Registers.rate_at, Resources.Stock, Resources.reaches, Waves.Wave, Waves.silence}
use Rattle.cs_ir.specs.{declared.op.Reach.Reach, declared.register.Counts.Counts, declared.register.Reg.Reg}
use Rattle.cs_cells.specs.{Access.Access, declared.footprint.Area.Area}
use Rattle.cs_meaning.specs.Pieces.{Piece, steps_of, step_at}
use Rattle.cs_machine.specs.Players.{CanRead, PlayerData, has_table, stepped}
use Rattle.cs_voice_meaning.specs.{Follows.Kinds, Placing.IsPlaced}
use Rattle.cs_machine.specs.{States.Does, States.IsStateIn, declared.state.State.State}
use Rattle.cs_ir.specs.declared.op.Act.TheVariants as act

-- whether a unit may play: it has no table, or its table is within reach
abbrev pub may_play : Reach → PlayerData → Bool
may_play reach p = not (has_table p) || reaches reach (unsigned_abs p.table)

-- A unit may be run on these registers: it takes as many arguments, and its table may be read if it is within
-- reach.
pub record MayPlay (access : Access) (reach : Reach) (from : List Reg) (p : PlayerData) : Type 0 where
  pub unit : IsUnitOpcode (opcode_of p.state)
  pub operands : length from ≡ moving_count (opcode_of p.state)
  pub read : may_play reach p ≡ true → CanRead access p

-- the state of a unit after a cycle at a rate, and its results
abbrev pub cycled : ℕ → Rate → List Wave → (ℕ → ℤ) → PlayerData → UnitState × List ℤ
cycled ksmps r ws cells p = stepped p ws cells (steps_of ksmps r)

-- the unit after a cycle, if there is one; it stays the same if its table is out of reach
abbrev pub unit_after : ℕ → Rate → Reach → List Wave → (ℕ → ℤ) → Option PlayerData → Option PlayerData
unit_after ksmps r reach ws cells None = None
unit_after ksmps r reach ws cells (Some p) =
    Some (if may_play reach p then record p { state = (cycled ksmps r ws cells p).0 } else p)

-- the results of a unit: 0 if there is no unit, or if its table is out of reach
abbrev pub unit_gives : ℕ → Rate → Reach → List Wave → (ℕ → ℤ) → Option PlayerData → Wave
unit_gives ksmps r reach ws cells None = silence
unit_gives ksmps r reach ws cells (Some p) =
    if may_play reach p then (λ j. argument (cycled ksmps r ws cells p).1 (step_at r j)) else silence

-- The act `Unit` is done on a state and cells, in every piece that has laid out its areas and has the opcode,
-- at the rate of the op's register, as the unit with this number.
abbrev pub DoesUnit : ℕ → Reach → Reg → List Reg → State → (ℕ → ℤ) → State → (ℕ → ℤ) → Type 0
DoesUnit u reach into from old before new after = (areas : List Area) (piece : Piece) (stock : Stock) (kinds : Kinds)
    (counts : Counts) (opcode : Opcode) → IsUnitOpcode opcode → kinds u ≡ (opcode, rate_at into)
    → IsPlaced areas stock piece → IsStateIn areas piece kinds counts old
    → Does areas piece kinds counts (act.Unit opcode u reach) into from old before new after
