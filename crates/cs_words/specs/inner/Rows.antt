-- The catalogue's rows in the code.
use Rattle.std.specs.Prelude.{ℕ, List, [], ◌∷◌, Option, Some, None, if◌then◌else◌}
use Rattle.std.specs.Str.{bytes_eq}
use Rattle.cs_words.specs.{Catalogue.Row, Catalogue.row, declared.catalogue.Entry.Entry}
use Rattle.cs_words.specs.declared.catalogue.Opcode.{Opcode}

-- the row of an entry in the code
abbrev pub row_in : Entry → Row
row_in e = row e.name.now e.results.now e.fixed.now e.more e.shape

-- the opcode of the first entry that has the name
abbrev pub first_named : List Entry → List ℕ → Option Opcode
first_named [] name = None
first_named (e ∷ rest) name = if bytes_eq name e.name.now then Some e.opcode else first_named rest name
