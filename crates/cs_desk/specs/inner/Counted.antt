-- Lemmas: there are as many cells as the layout says, wherever they are.
use Rattle.std.proofs.Common.{◌≡◌, ℕ, ℤ, List, length, Option, Some, None, refl, ◌∙◌}
use Rattle.std.proofs.lemmas.List.{length-map}
use Rattle.std.specs.{Global.Vec, Option.ForSome}
use Rattle.cs_board.specs.{Resting.known_in, Views.cells_laid}
use Rattle.cs_cells.specs.{Areas.word_count, Cells.Cells, Cells.signed, Cells.values}
use Rattle.cs_desk.specs.{Desk.areas, Desk.cells, Kept.cells_now, declared.desk.Desk.Desk}
use Rattle.cs_desk.specs.{inner.Tables.cells_in, inner.Tables.layout_of, declared.resting.RestingTable.RestingTable}

-- in plain memory, or else in a table
count_now : (plain : Option (Vec ℤ)) (laid : Cells) (n : ℕ) → ForSome plain (λ numbers. length numbers.items ≡ n)
    → length laid ≡ n → length (cells_now plain laid) ≡ n
count_now None laid n there count = count
count_now (Some numbers) laid n there count = there numbers refl

module _ {J : Type 0} where
  pub cells_counted : (table : RestingTable J) → length (cells_in table) ≡ word_count (layout_of table)
  cells_counted table =
      length-map (cells_laid (layout_of table) (known_in table.seat)) signed ∙ table.rests.cleared.long

  pub count_is : (desk : Desk J) → length (cells desk) ≡ word_count (areas desk)
  count_is desk =
      count_now desk.plain (values (cells_laid (areas desk) (known_in desk.resting.seat))) (word_count (areas desk))
      desk.long (cells_counted desk.resting)
