-- The results of the parts of a start: the unit, or a refusal and the state as it was.
use Rattle.std.specs.Prelude.{ℕ, ℤ, pos, ◌≡◌, ◌+◌, ◌≤◌, true, false, List, slice_index_or, Option, Some, None}
use Rattle.std.specs.Prelude.{if◌then◌else◌}
use Rattle.cs_ugen.specs.declared.unit.UnitState.{UnitState}
use Rattle.cs_words.specs.declared.catalogue.Opcode.{Opcode}
use Rattle.cs_signal.specs.{Delay.delay_length, Pace.Pace}
use Rattle.cs_cells.specs.declared.footprint.Area.{Area}
use Rattle.cs_meaning.specs.Pieces.{Table, find_table, is_delay, is_there}
use Rattle.cs_machine.specs.declared.state.State.{State}
use Rattle.cs_voice.specs.{Starting.HasUnit, Starting.player_on, declared.begin.StartRefusal.StartRefusal}
use Rattle.cs_voice.specs.declared.begin.StartRefusal.TheVariants as refusal

-- a unit plays on the table with a number, which has been made
pub record IsBegunOn (areas : List Area) (tables : List Table) (number : ℤ) (state : UnitState) (unit : ℕ)
    (old new : State) : Type 0 where
  pub table : Table
  pub found : find_table tables number ≡ Some table
  pub present : table.present ≡ true
  pub has : HasUnit old unit (player_on areas table number state) old.delays new
  pub small : (area : Area) → (player_on areas table number state).area ≡ Some area → area.first + area.length ≤ 65536

-- the table with a number is found, if it has been made
abbrev pub FindsMade : List Table → ℤ → Option Table → Type 0
FindsMade tables number None = is_there (find_table tables number) ≡ false
FindsMade tables number (Some table) = find_table tables number ≡ Some table

-- a table is looked for, and refused if it hasn't been made
abbrev pub Seeks : List Table → ℤ → Option StartRefusal → Type 0
Seeks tables number None = is_there (find_table tables number) ≡ true
Seeks tables number (Some refused) = (is_there (find_table tables number) ≡ false) × (refused ≡ refusal.NoTable number)

-- the number of samples in all delays after the start of a unit
abbrev pub samples_with : Opcode → Pace → List ℤ → ℕ → ℕ
samples_with o pace settled delays =
    if is_delay o then delays + delay_length pace (slice_index_or settled 0 (pos 0)) else delays
