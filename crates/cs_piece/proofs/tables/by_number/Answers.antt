use Rattle.std.proofs.Common.{map, rules}
use Rattle.std.proofs.lemmas.List.Sorted.{IsNonDecreasingBy-from_sort_by_key, IsPermutation-map}
use Rattle.cs_piece.specs.Tables.{table_of}
use Rattle.cs_piece.proofs.Ascending.{sorted_is, up_mapped}
use Rattle.cs_piece.proofs.tables.by_number.Goals as goal
use Rattle.cs_voice.specs.declared.stage.PieceTable.{PieceTable}

pub returns : goal.returns
returns c =
    sorted_is (map table_of c.args.tables.items) _
    (IsPermutation-map table_of c.args.tables.items _ c.sort_unstable_by_key.ensures.permutation)
    (up_mapped _ (IsNonDecreasingBy-from_sort_by_key (λ (t : PieceTable). t.number) _
    c.sort_unstable_by_key.ensures.sorted (λ a r q k. search rules))) c.requires
