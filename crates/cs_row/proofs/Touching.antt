-- A row touches everything that one of its jobs touches.
use Rattle.std.proofs.Common.{arith, ℕ, List}
use Rattle.std.proofs.lemmas.Grind.{common_steps}
use Rattle.std.specs.List.{All}
use Rattle.cs_cells.specs.{Access.Access, Access.Allows, Meaning.Meaning, Meaning.Uses, Meaning.Writes}
use Rattle.cs_row.specs.Rows.{IsRow, Touches, row_areas, row_foot, row_job}

module _ {J : Type 0} (M : Meaning J) (js : List J) (row : IsRow M js) where
  used : (j : J) → Touches M (row_areas M js) (row_foot M js) j → (a : ℕ) → Uses M j a → Uses (row_job M) js a
  used j touches a u = grind (arith, common_steps)

  written : (j : J) → Touches M (row_areas M js) (row_foot M js) j → (a : ℕ) → Writes M j a → Writes (row_job M) js a
  written j touches a w = grind (arith, common_steps)

  pub each_allowed : (access : Access) → Allows access (Uses (row_job M) js) (Writes (row_job M) js)
      → All (λ j. Allows access (Uses M j) (Writes M j)) js
  each_allowed access allowed k d low = let touches = row.alike k d low in record {
    get = λ a u. allowed.get a (used _ touches a u);
    set = λ a w. allowed.set a (written _ touches a w);
    there = λ a u. allowed.there a (used _ touches a u);
  }
