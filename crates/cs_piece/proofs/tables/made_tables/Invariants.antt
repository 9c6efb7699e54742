use Rattle.std.proofs.Common.{◌≡◌, map, take}
use Rattle.cs_piece.specs.{Tables.table_of, inner.Marked.given_of, inner.Marked.table_by}
use Rattle.cs_piece.proofs.tables.made_tables.Given as goal

abbrev pub invariant-loop-first : goal.invariant-loop-first
invariant-loop-first l =
    map table_of l.tables.items ≡ map (λ x. table_by l.times l.written (given_of x)) (take l.first-index l.given)
