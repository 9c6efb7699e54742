use Rattle.std.proofs.Common.{◌≡◌, drop}
use Rattle.cs_words.specs.{Tables.looked_up, inner.Tables.rows}
use Rattle.cs_words.proofs.table.looked_up.Given as goal

abbrev pub invariant-loop-spelling : goal.invariant-loop-spelling
invariant-loop-spelling g l =
    looked_up (rows (drop l.spelling-index l.table)) l.bytes ≡ looked_up (rows l.table) l.bytes
