use Rattle.std.proofs.Common.{◌≡◌, drop}
use Rattle.cs_words.specs.inner.Rows.{first_named}
use Rattle.cs_words.proofs.catalogue.first_named.Given as goal

abbrev pub invariant-loop-entry : goal.invariant-loop-entry
invariant-loop-entry l = first_named (drop l.entry-index l.among) l.name ≡ first_named l.among l.name
