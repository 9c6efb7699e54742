-- What is needed to do something at a moment, and what it means to have done it.
use Rattle.std.specs.Prelude.{ℕ, ℤ, pos, ◌≡◌, List, Some, None}
use Rattle.cs_cells.specs.{Access.Access, Access.AllowsBelow, Areas.word_count, Cells.Cells}
use Rattle.cs_piece_meaning.specs.Moments.{Composition, Moment}
use Rattle.cs_gen.specs.Faults.{table_fault}
use Rattle.cs_meaning.specs.Plain.{Table, find_table}
use Rattle.cs_piece.specs.Setups.{composition_of}
use Rattle.cs_tempo.specs.declared.plot.EventAct.{EventAct}
use Rattle.cs_voice.specs.VoiceData.{VoiceData}
use Rattle.cs_life.specs.{Standing.StandsFor, declared.life.Life.Life}
use Rattle.cs_tempo.specs.declared.plot.EventAct.TheVariants as act

-- The performance can go on: its state represents some moment, and each cell of the piece can be read and
-- written.
pub record CanGoOn (access : Access) (life : Life) (voices : List VoiceData) (cells : Cells) : Type 0 where
  pub moment : Moment
  pub stands : StandsFor (composition_of life.setup.now) life voices cells moment
  pub allows : AllowsBelow access (word_count life.setup.now.layout)

-- The performance has gone on: if its state represented a moment, it now represents the moment to which
-- `leads` leads.
pub record HasGoneOn (leads : Moment → Moment) (life : Life) (voices : List VoiceData) (cells : Cells) (new : Life)
    (after : List VoiceData) (left : Cells) : Type 0 where
  pub to : (m : Moment) → StandsFor (composition_of life.setup.now) life voices cells m
      → StandsFor (composition_of life.setup.now) new after left (leads m)

-- A table that an event defines has no fault, and has the size of the other tables with its number.
pub record CanBeMade (c : Composition) (number : ℕ) (size gen : ℤ) (args : List ℤ) : Type 0 where
  pub no_fault : table_fault size gen args ≡ None
  pub one_size : (t : Table) → find_table c.tables (pos number) ≡ Some t → pos t.size ≡ size

-- what an event of a composition can rely on
abbrev pub CanBeDone : Composition → EventAct → Type 0
CanBeDone c (act.Start instr cycles fields) = Unit {0}
CanBeDone c (act.Table number size gen args) = CanBeMade c number size gen args
