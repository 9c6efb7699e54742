-- The outputs of opcodes with state, as far as the meaning of notes needs them: the definitions of what notes
-- mean depend on this record, and not on the units.
use Rattle.std.specs.Prelude.{ℕ, ℤ, List}
use Rattle.cs_base.specs.declared.resource.Rate.{Rate}
use Rattle.cs_words.specs.declared.catalogue.Opcode.{Opcode}

-- The output of an opcode at its last step, from its rate, its settled values and all inputs so far; and the
-- number of samples that a delay line stores for a time in raw seconds.
pub record Generators : Type 0 where
  pub gen : Opcode → Rate → List ℤ → List (List ℤ) → ℤ
  pub delay : ℤ → ℕ
