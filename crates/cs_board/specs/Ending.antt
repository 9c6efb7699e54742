-- The end of a cycle, once every seat but the first was joined. v is a view, k a plan, s the state of the
-- board, t a note; M is what jobs mean.
use Rattle.std.specs.Prelude.{◌≡◌, ℕ, ◌<◌, List, [], map, length, take, drop, true, false, None, slice_index}
use mathlib.Core.Option.{some}
use lib.ListN.{get_elem?}
use Rattle.atomic_table.specs.Table.{State}
use Rattle.cs_cells.specs.{Cells.values, Meaning.Meaning, Serial.serial_cells, Serial.serial_jobs}
use Rattle.cs_board.specs.{Counts.times, Counts.listed, Plans.area_count, Plans.places_written, Rule.home_in}
use Rattle.cs_board.specs.{Views.slot_row, declared.view.Berth.Berth, declared.view.Still.Still}
use Rattle.cs_board.specs.{declared.view.Plan.Plan, declared.view.View.View, declared.words.TheConstants.DONE}
use Rattle.cs_board.specs.Words.{Words, at, all_words, IsSized, status_at}

-- the first seat when it runs nothing, has nothing to finish or to try, and has joined each other seat
pub record IsLast {J : Type 0} (v : View J) : Type 0 where
  pub first : v.first ≡ true
  pub doing : v.doing ≡ None
  pub closing : v.closing ≡ None
  pub moving : v.moving ≡ None
  pub owes : v.owes ≡ []
  pub out : v.out ≡ []
  pub playing : v.rest ≡ None

-- some seat is the last one
abbrev pub HasLast : {J : Type 0} → State (Berth J) (View J) → Type 0
HasLast s = (id : ℕ) × (v : View _) × (get_elem? s.views id ≡ some v) × IsLast v

module _ {J : Type 0} (k : Plan J) where
  -- the part of the words that holds the cells
  abbrev pub cells_in : List ℕ → List ℕ
  cells_in words = take (length k.cells) (drop 1 words)

  -- No note is lost: each is Done.
  abbrev pub AllDone : State (Berth J) (View J) → Type 0
  AllDone s = (t : ℕ) → t < k.notes → slice_index s.words (status_at k t) ≡ DONE

  -- each note occurs once among those that the last seat has finished
  abbrev pub AllMine : View J → Type 0
  AllMine v = (t : ℕ) → t < k.notes → times t v.mine ≡ 1

  module _ (M : Meaning J) where
    -- The cells are as the serial run leaves them, and the slot of each note holds its job as the serial run
    -- leaves it. All further slots are vacant.
    pub record IsSerial (s : State (Berth J) (View J)) : Type 0 where
      pub cells : values (cells_in s.words) ≡ serial_cells M k.jobs k.cells
      pub vacant : ℕ
      pub jobs : map home_in s.homes ≡ slot_row 0 (serial_jobs M k.jobs k.cells) vacant

    -- The state of a board at rest after a cycle: the result of the serial run, with turn words other than 0
    -- only for resources that the cycle's notes write.
    pub record IsOver (w : Still J) : Type 0 where
      pub parts : Words
      pub words : w.words ≡ all_words parts
      pub sized : IsSized k parts
      pub cells : values parts.cells ≡ serial_cells M k.jobs k.cells
      pub turns : (r : ℕ) → r < area_count k → ((t : ℕ) → listed (places_written M k t) r ≡ false)
          → at parts.turns r ≡ 0
      pub vacant : ℕ
      pub homes : w.homes ≡ slot_row 0 (serial_jobs M k.jobs k.cells) vacant
