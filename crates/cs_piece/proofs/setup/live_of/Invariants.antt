use Rattle.std.proofs.Common.{◌≡◌, map, take}
use Rattle.cs_piece.specs.{Compositions.live_in, Tables.table_of}
use Rattle.cs_piece.proofs.setup.live_of.Given as goal

abbrev pub invariant-loop-table : goal.invariant-loop-table
invariant-loop-table l = l.live.items ≡ live_in (map table_of (take l.table-index l.tables))
