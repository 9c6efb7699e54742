-- Jobs that run one by one on a desk's cells.
use Rattle.std.proofs.Common.{arith, ◌≡◌, ℕ, ◌<◌, List, true, subst}
use Rattle.std.proofs.lemmas.{Grind.common_steps, Bool.or_cases}
use Rattle.cs_cells.specs.{Access.Allows, Access.full_access, Areas.IsLaid, Areas.word_count, Cells.covers}
use Rattle.cs_cells.specs.declared.footprint.Area.{Area}
use Rattle.cs_cells.specs.Meaning.{Meaning, Uses, Writes}
use Rattle.cs_cells.proofs.Laid.{covered_below}

module _ {J : Type 0} (M : Meaning J) where
  -- a cell that a job uses or writes is one of its layout
  used_below : (areas : List Area) (j : J) (a : ℕ) → IsLaid areas → M.areas j ≡ areas → Uses M j a
      → a < word_count areas
  used_below areas j a laid e u = grind (arith, common_steps, covered_below, or_cases)

  written_below : (areas : List Area) (j : J) (a : ℕ) → IsLaid areas → M.areas j ≡ areas → Writes M j a
      → a < word_count areas
  written_below areas j a laid e w =
      covered_below areas (M.foot j).writes a laid (subst (λ z. covers z (M.foot j).writes a ≡ true) e w)

  -- so a bank with these cells allows it
  pub allowed_over : (areas : List Area) (j : J) → IsLaid areas → M.areas j ≡ areas
      → Allows (full_access (word_count areas)) (Uses M j) (Writes M j)
  allowed_over areas j laid e = record {
    get = λ a u. used_below areas j a laid e u;
    set = λ a w. written_below areas j a laid e w;
    there = λ a u. used_below areas j a laid e u;
  }
