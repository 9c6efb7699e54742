-- A board that rests between two cycles: its one seat, and how the next cycle is laid out on it. k is the
-- plan of the cycle that begins, w what is known about the board; t is a note, e an edge, r the index of a
-- resource.
use Rattle.std.specs.Prelude.{◌≡◌, ℕ, ◌+◌, ◌<◌, ◌≤◌, List, [], drop, length, is_some, true, false, Option, Some, None}
use Rattle.atomic_table.specs.{Seated.TableId, declared.shared.Seat.Seat}
use Rattle.cs_cells.specs.{Areas.word_count, Cells.values, declared.footprint.Area.Area}
use Rattle.cs_board.specs.{Plans.area_count, Plans.edge_count, Views.slot_row, declared.view.Berth.Berth}
use Rattle.cs_board.specs.{declared.view.Plan.Plan, declared.view.Still.Still, declared.view.View.View}
use Rattle.cs_board.specs.Words.{Words, at, all_words, IsSized}
use Rattle.cs_board.specs.Opening.{each_below, first_status, first_watch}

-- the number of words that a cycle with these numbers of notes and edges needs
abbrev pub wide : List Area → ℕ → ℕ → ℕ
wide areas notes edges = 1 + (word_count areas + (length areas + (notes + (notes + edges))))

module _ {J : Type 0} where
  -- what is known about the board at rest, and an empty board if nothing is
  abbrev pub still_in : Option (Still J) → Still J
  still_in None = record { words = []; homes = [] }
  still_in (Some w) = w

  -- the layout that the seat knows
  abbrev pub areas_in : Seat (Berth J) (View J) → List Area
  areas_in seat = seat.me.0.plan.areas

  -- what the seat knows about the board at rest
  abbrev pub known_in : Seat (Berth J) (View J) → Still J
  known_in seat = still_in seat.me.0.rest

  -- the one seat of a board that rests
  pub record IsSole (id : TableId) (seat : Seat (Berth J) (View J)) : Type 0 where
    pub table : seat.table_id ≡ id
    pub live : seat.me.0.spent ≡ false
    pub knows : is_some seat.me.0.rest ≡ true
    pub carries : length seat.me.1 ≡ 0

  -- the cycle is laid out for the notes from t on, and for the first e watch words
  pub record IsLaying (k : Plan J) (t e : ℕ) (w : Still J) : Type 0 where
    pub parts : Words
    pub words : w.words ≡ all_words parts
    pub sized : IsSized k parts
    pub cells : values parts.cells ≡ k.cells
    pub turns : parts.turns ≡ each_below (λ r. 0) (area_count k)
    pub status : (u : ℕ) → t ≤ u → u < k.notes → at parts.status u ≡ first_status k.edges u
    pub own : (u : ℕ) → t ≤ u → u < k.notes → at parts.own u ≡ 0
    pub watch : (f : ℕ) → f < e → f < edge_count k → at parts.watch f ≡ first_watch k.edges f
    pub left : ℕ
    pub homes : w.homes ≡ slot_row t (drop t k.jobs) left
