-- The words with which a cycle begins. k is a plan, t a note, e an edge, r the index of a resource.
use Rattle.std.specs.Prelude.{ℕ, zero, suc, List, [], ◌∷◌, ◌++◌, take, cond, slice_index_or}
use Rattle.cs_board.specs.{Plans.leads_in, Plans.edge_count, Plans.area_count, Words.Words, declared.view.Plan.Plan}
use Rattle.cs_board.specs.declared.words.TheConstants.{WAITING, AVAILABLE, IDLE, WATCHED}

-- f of each number below n, in order
abbrev pub each_below : (ℕ → ℕ) → ℕ → List ℕ
each_below f zero = []
each_below f (suc n) = each_below f n ++ f n ∷ []

-- a note that waits for none is Available; any other is Waiting
abbrev pub first_status : List (ℕ × ℕ) → ℕ → ℕ
first_status edges t = cond (leads_in edges t) WAITING AVAILABLE

-- the note to which edge e leads
abbrev pub later_end : List (ℕ × ℕ) → ℕ → ℕ
later_end edges e = (slice_index_or edges e (0, 0)).1

-- the first edge into each note is Watched; any other is Idle
abbrev pub first_watch : List (ℕ × ℕ) → ℕ → ℕ
first_watch edges e = cond (leads_in (take e edges) (later_end edges e)) IDLE WATCHED

-- no note has run; `cells` and `spare` are as they were before
abbrev pub opening_words : {J : Type 0} → Plan J → List ℕ → List ℕ → Words
opening_words k cells spare = record {
  cells = cells;
  turns = each_below (λ r. 0) (area_count k);
  status = each_below (first_status k.edges) k.notes;
  own = each_below (λ t. 0) k.notes;
  watch = each_below (first_watch k.edges) (edge_count k);
  spare = spare;
}
