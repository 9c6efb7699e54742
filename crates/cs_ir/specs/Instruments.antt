-- Instruments and their numbers.
use Rattle.std.specs.Prelude.{ℕ, List, map}
use Rattle.cs_ir.specs.declared.op.Code.{Code}

-- An instrument: its number, the code that a note runs as it begins, and the code that it runs in each
-- control cycle.
pub record Numbered : Type 0 where
  pub number : ℕ
  pub init : Code
  pub perf : Code

-- the numbers of instruments
abbrev pub numbers_of : List Numbered → List ℕ
numbers_of list = map (λ (i : Numbered). i.number) list
