-- The units by opcode: formula, state and step of each. An opcode has a line in two tables.
use Rattle.std.specs.Prelude.{◌≡◌, ℕ, Bool, true, false, List, length, ℤ, pos}
use Rattle.cs_base.specs.declared.resource.Rate.{Rate}
use Rattle.cs_words.specs.Catalogue.{row_of, moving_letters, takes_table}
use Rattle.cs_words.specs.declared.catalogue.Opcode.{Opcode}
use Rattle.cs_signal.specs.{Pace.Pace, Plain.plain_of, Plain.plain_start, Plain.plain_step, Plain.PlainStands}
use Rattle.cs_ugen.specs.declared.unit.UnitState.{UnitState}
use Rattle.cs_words.specs.declared.catalogue.Opcode.TheVariants as op
use Rattle.cs_words.specs.declared.catalogue.Shape.TheVariants as shape
use Rattle.cs_signal.specs as signal
pub use Rattle.cs_signal.specs.Operands.{inputs_at}
use Rattle.cs_ugen.specs.Oscil
use Rattle.cs_ugen.specs.Oscili
use Rattle.cs_ugen.specs.Phasor
use Rattle.cs_ugen.specs.Table
use Rattle.cs_ugen.specs.Tablei
use Rattle.cs_ugen.specs.declared.unit.UnitState.TheVariants as unit

-- an opcode that computes its result from its arguments and its own state
abbrev pub IsUnitOpcode : Opcode → Type 0
IsUnitOpcode o = (row_of o).shape ≡ shape.Unit

-- The definition of an opcode.
-- - Its states, and the unit of a state.
-- - Its formula: the result in the last step, from the opcode's rate, the piece's pace, the i-rate
--   arguments, and the inputs of all steps so far.
-- - The state before the first step, and the unit of this state.
-- - One step: the state afterwards, and the result.
-- - The relation between a state and the steps that it has performed.
pub record OfOpcode : Type 1 where
  pub State : Type 0
  pub kind : State → UnitState
  pub formula : Rate → Pace → List ℤ → List (List ℤ) → ℤ
  pub start : Rate → Pace → List ℤ → State
  pub begin : Rate → Pace → List ℤ → UnitState
  pub step : State → List ℤ → State × ℤ
  pub stands : State → Rate → Pace → List ℤ → List (List ℤ) → Type 0

-- an opcode with a state from step to step
abbrev pub keeping : {S : Type 0} → (S → UnitState) → (Rate → Pace → List ℤ → List (List ℤ) → ℤ)
    → (Rate → Pace → List ℤ → S)
    → (S → List ℤ → S × ℤ) → (S → Rate → Pace → List ℤ → List (List ℤ) → Type 0) → OfOpcode
keeping {S} unit_of given started stepped stood = record {
  State = S;
  kind = unit_of;
  formula = given;
  start = started;
  begin = λ rate pace settled. unit_of (started rate pace settled);
  step = stepped;
  stands = stood;
}

-- an opcode whose result depends only on the inputs of its step
abbrev pub plain : (Unit {0} → UnitState) → (List ℤ → ℤ) → OfOpcode
plain unit_of value = keeping unit_of (plain_of value) plain_start (plain_step value) PlainStands

-- the definition of each opcode; an opcode that isn't a unit has the result 0
abbrev pub of_opcode : Opcode → OfOpcode
of_opcode op.Oscil = keeping unit.Oscil Oscil.oscil_of Oscil.oscil_start Oscil.oscil_step Oscil.OscilStands
of_opcode op.Oscili = keeping unit.Oscili Oscili.oscili_of Oscili.oscili_start Oscili.oscili_step Oscili.OsciliStands
of_opcode op.Phasor = keeping unit.Phasor Phasor.phasor_of Phasor.phasor_start Phasor.phasor_step Phasor.PhasorStands
of_opcode op.Line = keeping unit.Line signal.Line.line_of signal.Line.line_start signal.Line.line_step
    signal.Line.LineStands
of_opcode op.Linseg = keeping unit.Linseg signal.Linseg.linseg_of signal.Linseg.linseg_start signal.Linseg.linseg_step
    signal.Linseg.LinsegStands
of_opcode op.Linen = keeping unit.Linen signal.Linen.linen_of signal.Linen.linen_start signal.Linen.linen_step
    signal.Linen.LinenStands
of_opcode op.Delay = keeping unit.Delay signal.Delay.delay_of signal.Delay.delay_start signal.Delay.delay_step
    signal.Delay.DelayStands
of_opcode op.Biquad = keeping unit.Biquad signal.Biquad.biquad_of signal.Biquad.biquad_start signal.Biquad.biquad_step
    signal.Biquad.BiquadStands
of_opcode op.Table = keeping unit.Table Table.table_of Table.table_start Table.table_step Table.TableStands
of_opcode op.Tablei = keeping unit.Tablei Tablei.tablei_of Tablei.tablei_start Tablei.tablei_step Tablei.TableiStands
of_opcode op.Integ = keeping unit.Integ signal.Integ.integ_of signal.Integ.integ_start signal.Integ.integ_step
    signal.Integ.IntegStands
of_opcode op.Diff = keeping unit.Diff signal.Diff.diff_of signal.Diff.diff_start signal.Diff.diff_step
    signal.Diff.DiffStands
of_opcode op.Samphold = keeping unit.Samphold signal.Samphold.samphold_of signal.Samphold.samphold_start
    signal.Samphold.samphold_step signal.Samphold.SampholdStands
of_opcode op.Limit = plain unit.Limit signal.Limit.limit_value
of_opcode op.Interp = keeping unit.Interp signal.Interp.interp_of signal.Interp.interp_start signal.Interp.interp_step
    signal.Interp.InterpStands
of_opcode op.Downsamp = plain unit.Downsamp signal.Downsamp.downsamp_value
of_opcode _ = plain unit.Downsamp (λ inputs. pos 0)

-- the result of an opcode in the last of these steps
unfoldable pub gen : Opcode → Rate → Pace → List ℤ → List (List ℤ) → ℤ
gen o rate pace settled inputs = (of_opcode o).formula rate pace settled inputs

-- a unit before its first step
abbrev pub unit_start : Opcode → Rate → Pace → List ℤ → UnitState
unit_start o rate pace settled = (of_opcode o).begin rate pace settled

-- The definition of a unit: its opcode and its state; one step, which returns the unit afterwards and the
-- result; and the relation between a unit and the steps that it has performed.
pub record OfUnit : Type 1 where
  pub opcode : Opcode
  pub state : (of_opcode opcode).State
  pub step : List ℤ → UnitState × ℤ
  pub stands : Rate → Pace → List ℤ → List (List ℤ) → Type 0

-- the unit of an opcode in a state
abbrev pub with_state : (o : Opcode) → (of_opcode o).State → OfUnit
with_state o s = record {
  opcode = o;
  state = s;
  step = λ x. let r = (of_opcode o).step s x in ((of_opcode o).kind r.0, r.1);
  stands = (of_opcode o).stands s;
}

-- the opcode and the state of a unit
abbrev pub of_unit : UnitState → OfUnit
of_unit (unit.Oscil s) = with_state op.Oscil s
of_unit (unit.Oscili s) = with_state op.Oscili s
of_unit (unit.Phasor s) = with_state op.Phasor s
of_unit (unit.Line s) = with_state op.Line s
of_unit (unit.Linseg s) = with_state op.Linseg s
of_unit (unit.Linen s) = with_state op.Linen s
of_unit (unit.Delay s) = with_state op.Delay s
of_unit (unit.Biquad s) = with_state op.Biquad s
of_unit (unit.Table s) = with_state op.Table s
of_unit (unit.Tablei s) = with_state op.Tablei s
of_unit (unit.Integ s) = with_state op.Integ s
of_unit (unit.Diff s) = with_state op.Diff s
of_unit (unit.Samphold s) = with_state op.Samphold s
of_unit (unit.Limit s) = with_state op.Limit s
of_unit (unit.Interp s) = with_state op.Interp s
of_unit (unit.Downsamp s) = with_state op.Downsamp s

-- the opcode of a unit
abbrev pub opcode_of : UnitState → Opcode
opcode_of u = (of_unit u).opcode

-- one step of a unit: the unit afterwards, and the result
abbrev pub unit_step : UnitState → List ℤ → UnitState × ℤ
unit_step u x = (of_unit u).step x

-- a unit is in the state after these steps
abbrev pub StateStands : UnitState → Rate → Pace → List ℤ → List (List ℤ) → Type 0
StateStands u = (of_unit u).stands

-- a unit has performed steps with these inputs, one entry per step, under an opcode, a rate, a pace and
-- i-rate arguments
pub record Stands (u : UnitState) (o : Opcode) (rate : Rate) (pace : Pace) (settled : List ℤ)
    (inputs : List (List ℤ)) : Type
    0 where
  pub opcode : opcode_of u ≡ o
  pub state : StateStands u rate pace settled inputs

-- the opcodes of units that read a table; their inputs end with the table's points, the guard point last
abbrev pub reads_table : Opcode → Bool
reads_table o = takes_table o

-- the opcodes that allocate memory as they start
abbrev pub takes_memory : Opcode → Bool
takes_memory op.Delay = true
takes_memory op.Linseg = true
takes_memory _ = false

-- the number of moving arguments of a step
abbrev pub moving_count : Opcode → ℕ
moving_count o = length (moving_letters (row_of o))
