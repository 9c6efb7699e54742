-- A board that rests between two cycles: what is vacant, and what is cleared after a cycle. k is the plan of
-- the cycle that begins or has ended, w what is known about the board; t is a note, r the index of a
-- resource.
use Rattle.std.specs.Prelude.{◌≡◌, ℕ, ◌+◌, ◌-◌, ◌<◌, ◌≤◌, ◌⊎◌, List, [], ◌∷◌, ◌++◌, drop, length, Bool, true, false}
use Rattle.std.specs.Prelude.{Option, Some, None}
use Rattle.atomic_table.specs.{Seated.TableId, declared.shared.Seat.Seat}
use Rattle.cs_base.specs.Limits.{most_resources}
use Rattle.cs_board.specs.{Resting.IsSole, Resting.areas_in, Resting.known_in, Resting.wide, Counts.listed}
use Rattle.cs_board.specs.{Plans.area_count, Plans.places_written, Views.slot_row, Views.cells_laid, Words.Words}
use Rattle.cs_board.specs.{Words.at, Words.all_words, Words.IsSized, Opening.each_below, declared.view.Berth.Berth}
use Rattle.cs_board.specs.{declared.view.Plan.Plan, declared.view.Still.Still, declared.view.View.View}
use Rattle.cs_cells.specs.{Areas.IsLaid, Areas.word_count, Cells.values, Meaning.Meaning, declared.footprint.Area.Area}
use Rattle.cs_cells.specs.Serial.{serial_cells, serial_jobs}
use Rattle.cs_graph.specs.Graph.{Dependencies}
use Rattle.cs_board.specs.declared.view.Berth.TheVariants.{Vacant, Full, Told}

module _ {J : Type 0} where
  -- each slot is vacant
  abbrev pub all_vacant : List (Option (Berth J)) → Bool
  all_vacant [] = true
  all_vacant (None ∷ homes) = false
  all_vacant (Some Vacant ∷ homes) = all_vacant homes
  all_vacant (Some (Full j) ∷ homes) = false
  all_vacant (Some (Told g) ∷ homes) = false

  -- the words after the cells and turns
  abbrev pub others_laid : List Area → Still J → List ℕ
  others_laid areas w = drop (1 + (word_count areas + length areas)) w.words

  -- no turn is counted, and each slot is vacant
  pub record IsCleared (areas : List Area) (words_made slots_made : ℕ) (w : Still J) : Type 0 where
    pub words : w.words ≡ 0 ∷ cells_laid areas w ++ (each_below (λ r. 0) (length areas) ++ others_laid areas w)
    pub long : length (cells_laid areas w) ≡ word_count areas
    pub count : length w.words ≡ words_made
    pub vacant : all_vacant w.homes ≡ true
    pub slots : length w.homes ≡ slots_made

  -- the seat of a desk, with the counts that the desk stores
  pub record IsResting (areas_made cells_made : ℕ) (id : TableId) (seat : Seat (Berth J) (View J)) : Type 0 where
    pub sole : IsSole id seat
    pub laid : IsLaid (areas_in seat)
    pub few : length (areas_in seat) ≤ most_resources
    pub areas : length (areas_in seat) ≡ areas_made
    pub cells : word_count (areas_in seat) ≡ cells_made
    pub cleared : IsCleared (areas_in seat) id.words id.slots (known_in seat)

  -- the plan of a cycle of these jobs, on a board about which w is known
  abbrev pub plan_over : List Area → Still J → Dependencies → List J → Plan J
  plan_over areas w graph jobs = record {
    notes = length jobs;
    edges = graph.edges;
    areas = areas;
    jobs = jobs;
    cells = values (cells_laid areas w);
    spare = length w.words - wide areas (length jobs) (length graph.edges);
  }

  -- the turn words of the resources `all` without `left` are 0 now; nothing else that was 0 or isn't a turn
  -- word has changed
  pub record ClearsTurns (k : Plan J) (all left : List ℕ) (w w' : Still J) : Type 0 where
    pub homes : w'.homes ≡ w.homes
    pub words : (p : Words) → IsSized k p → w.words ≡ all_words p
        → (turns : List ℕ) × (w'.words ≡ all_words (record p { turns = turns }))
        × (length turns ≡ length p.turns) × ((r : ℕ) → at p.turns r ≡ 0 → at turns r ≡ 0)
        × ((r : ℕ) → listed all r ≡ true → (at turns r ≡ 0) ⊎ (listed left r ≡ true))

module _ {J : Type 0} (M : Meaning J) where
  -- the jobs below t are taken out of their slots, and only turns of later notes are left
  pub record IsClearing (k : Plan J) (t : ℕ) (w : Still J) : Type 0 where
    pub parts : Words
    pub words : w.words ≡ all_words parts
    pub sized : IsSized k parts
    pub cells : values parts.cells ≡ serial_cells M k.jobs k.cells
    pub turns : (r : ℕ) → r < area_count k → ((u : ℕ) → t ≤ u → listed (places_written M k u) r ≡ false)
        → at parts.turns r ≡ 0
    pub left : ℕ
    pub homes : w.homes ≡ slot_row t (drop t (serial_jobs M k.jobs k.cells)) left
