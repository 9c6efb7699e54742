-- An orchestra that is ready to be typed: its tree is well formed, and the library holds exactly its
-- definitions.
use Rattle.std.specs.Prelude.{◌≡◌}
use Rattle.cs_grammar.specs.WellFormed.{IsWellFormed}
use Rattle.cs_udo.specs.{Library.definitions_of, declared.library.Expansion.Expansion}
use Rattle.cs_grammar.specs.Tree as tree

pub record IsReady (e : Expansion) : Type 0 where
  pub well_formed : IsWellFormed (tree.orchestra e.orc.now)
  pub definitions : definitions_of e.library ≡ (tree.orchestra e.orc.now).opcodes
