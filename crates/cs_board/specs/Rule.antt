-- The rule of the board: the invariant between any two steps of a complete performance, whatever the
-- interleaving. M is what jobs mean, k the plan of a cycle, w the words, s the state of the board; v and w
-- are views, i and j slots or seats.
use Rattle.std.specs.Prelude.{◌≡◌, ◌≢◌, ℕ, ◌<◌, ◌≤◌, ◌⊎◌, List, map, length, false, Option, Some, None}
use mathlib.Core.Option.{some, none}
use lib.ListN.{get_elem?}
use Rattle.atomic_table.specs.Table.{State}
use Rattle.cs_cells.specs.Meaning.{Meaning}
use Rattle.cs_board.specs.Facts.{Gates, IsSane, Doers, Watches, Tallied, Seats, Owned, Slots, Stored, Turned}
use Rattle.cs_board.specs.{Plans.IsPlan, Views.spent_view, Words.Words, Words.all_words, Words.IsSized}
use Rattle.cs_board.specs.{declared.view.Berth.Berth, declared.view.Berth.TheVariants.Vacant, declared.view.Plan.Plan}
use Rattle.cs_board.specs.{declared.view.Still.Still, declared.view.View.View}
use mathlib.Core.Option as maybe

module _ {J : Type 0} (M : Meaning J) (k : Plan J) where
  -- all facts of a cycle that is being played
  pub record Facts (w : Words) (homes : List (maybe.Option (Berth J))) (views : List (View J)) : Type 0 where
    pub gates : Gates k w.status w.watch
    pub sane : (id : ℕ) (v : View J) → get_elem? views id ≡ some v → IsSane k v
    pub doers : Doers k w.status views
    pub watches : Watches k w.status w.watch views
    pub tallied : Tallied k w.status views
    pub seats : Seats views
    pub owned : Owned w.status w.own views
    pub slots : Slots M k w.status homes views
    pub stored : Stored M k w.status w.cells views
    pub turned : Turned M k w.status w.turns views

  -- A cycle with this plan is being played. The slots after its notes' slots are vacant.
  pub record Holds (s : State (Berth J) (View J)) : Type 0 where
    pub plan : IsPlan M k
    pub parts : Words
    pub words : s.words ≡ all_words parts
    pub sized : IsSized k parts
    pub deep : k.notes ≤ length s.homes
    pub vacant : (i : ℕ) → k.notes ≤ i → i < length s.homes → get_elem? s.homes i ≡ some (some Vacant)
    pub facts : Facts parts s.homes s.views

module _ {J : Type 0} where
  -- the content of a slot, or None while a seat has taken it
  abbrev pub home_in : maybe.Option (Berth J) → Option (Berth J)
  home_in none = None
  home_in (some b) = Some b

  -- all words, and the content of each slot
  abbrev pub stillness : State (Berth J) (View J) → Still J
  stillness s = record { words = s.words; homes = map home_in s.homes }

  -- The board rests between two cycles: one seat knows everything on it, and every other seat was joined.
  pub record Resting (s : State (Berth J) (View J)) : Type 0 where
    pub id : ℕ
    pub view : View J
    pub here : get_elem? s.views id ≡ some view
    pub live : view.spent ≡ false
    pub knows : view.rest ≡ Some (stillness s)
    pub others : (j : ℕ) (w : View J) → j ≢ id → get_elem? s.views j ≡ some w → w ≡ spent_view

-- Either a cycle with some plan is being played, and each of its seats has the plan in its view, or the board
-- rests.
abbrev pub Always : {J : Type 0} → Meaning J → State (Berth J) (View J) → Type 0
Always M s = ((k : Plan _) × Holds M k s) ⊎ Resting s
