-- The number of cells of a bank, by the bank's law.
use Rattle.std.proofs.Common.{◌≡◌, ◌∙◌, ap, sym, ℤ, List, length}
use Rattle.cs_cells.specs.Access.{Access}

module _ {Bank Rest : Type 0} (cells : Bank → List ℤ) (rest : Bank → Rest) (access : Rest → Access)
    (counted : (bank : Bank) → length (cells bank) ≡ (access (rest bank)).count) where
  -- it is unchanged as long as the bank's unchanging part is
  pub same_count : (new old : Bank) → rest new ≡ rest old → length (cells new) ≡ length (cells old)
  same_count new old same = counted new ∙ ap (λ r. (access r).count) same ∙ sym (counted old)
