-- The words of the board: k is the plan of the cycle, w the words, t a note, e an edge, r the index of a
-- resource, a an address.
use Rattle.std.specs.Prelude.{◌≡◌, ℕ, ◌+◌, List, ◌∷◌, ◌++◌, length, slice_index}
use Rattle.cs_board.specs.{Plans.edge_count, Plans.area_count, declared.view.Plan.Plan}

-- A status is WAITING, AVAILABLE, IN_PROGRESS or DONE; a watch word is IDLE, WATCHED or CLOSED.
pub record Words : Type 0 where
  -- one for each address
  pub cells : List ℕ
  -- one for each resource: how many notes that write it have run
  pub turns : List ℕ
  -- one for each note
  pub status : List ℕ
  -- one for each note: 1 once it has run
  pub own : List ℕ
  -- one for each edge
  pub watch : List ℕ
  -- the words that the cycle doesn't use
  pub spare : List ℕ

-- word number i, and 0 after the last
abbrev pub at : List ℕ → ℕ → ℕ
at xs i = slice_index xs i

-- all words in order; word 0 is 0 and never changes. Cells and turns have the same numbers in all cycles.
abbrev pub all_words : Words → List ℕ
all_words w = 0 ∷ w.cells ++ (w.turns ++ (w.status ++ (w.own ++ (w.watch ++ w.spare))))

-- the number of the word of the cell at address a
abbrev pub cell_at : ℕ → ℕ
cell_at a = 1 + a

module _ {J : Type 0} (k : Plan J) where
  -- there is a word for each cell, resource, note and edge of the plan
  pub record IsSized (w : Words) : Type 0 where
    pub cells : length w.cells ≡ length k.cells
    pub turns : length w.turns ≡ area_count k
    pub status : length w.status ≡ k.notes
    pub own : length w.own ≡ k.notes
    pub watch : length w.watch ≡ edge_count k
    pub spare : length w.spare ≡ k.spare

  -- the number of the turn word of resource r
  abbrev pub turn_at : ℕ → ℕ
  turn_at r = 1 + (length k.cells + r)

  -- the number of the status word of note t
  abbrev pub status_at : ℕ → ℕ
  status_at t = 1 + (length k.cells + (area_count k + t))

  -- the number of the own turn word of note t
  abbrev pub own_at : ℕ → ℕ
  own_at t = 1 + (length k.cells + (area_count k + (k.notes + t)))

  -- the number of the watch word of edge e
  abbrev pub watch_at : ℕ → ℕ
  watch_at e = 1 + (length k.cells + (area_count k + (k.notes + (k.notes + e))))

  -- the number of words that the cycle needs
  abbrev pub word_total : ℕ
  word_total = 1 + (length k.cells + (area_count k + (k.notes + (k.notes + edge_count k))))
