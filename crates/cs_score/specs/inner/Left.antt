-- The statements that remain in a text from a place on.
use Rattle.std.specs.Prelude.{ℕ, drop, List}
use Rattle.cs_base.specs.Lines.{Excerpt, lines_from}
use Rattle.cs_score.specs.{declared.row.Row.Row, Rows.rows_in}

-- the rows of the lines from a place on; `plain` is the text without its comments
abbrev pub rows_from : Excerpt → List ℕ → ℕ → List Row
rows_from text plain at = rows_in text (lines_from text.first_line at (drop at plain))
