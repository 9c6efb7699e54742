-- How a board's parts fit its plan.
use Rattle.std.specs.Prelude.{◌≡◌, ℕ, ◌+◌, ◌≤◌, length}
use Rattle.cs_graph.specs.Graph.{Dependencies}
use Rattle.cs_board.specs.{Plans.area_count, Words.word_total, declared.view.Plan.Plan}

-- the counts that the board stores agree with its plan, and its table is large enough for them
pub record IsBuilt {J : Type 0} (k : Plan J) (graph : Dependencies)
    (notes_made areas_made cells_made words_made slots_made : ℕ) : Type 0 where
  pub notes : k.notes ≡ notes_made
  pub levels : length graph.levels ≡ notes_made
  pub edges : graph.edges ≡ k.edges
  pub areas : area_count k ≡ areas_made
  pub cells : length k.cells ≡ cells_made
  pub words : words_made ≡ word_total k + k.spare
  pub slots : notes_made ≤ slots_made
