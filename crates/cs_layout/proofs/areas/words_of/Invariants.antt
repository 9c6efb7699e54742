use Rattle.std.proofs.Common.{◌≡◌, ◌≤◌, ◌+◌, ◌*◌, ◌^◌, take, sum_by}
use Rattle.cs_layout.proofs.areas.words_of.Given as goal

abbrev pub invariant-loop-group : goal.invariant-loop-group
invariant-loop-group l = record {
  words : l.words ≡ sum_by (λ g. g.count * g.cells) (take l.group-index l.groups);
  few : l.words ≤ 2 ^ 96 * l.group-index;
}

abbrev pub invariant-loop-table : goal.invariant-loop-table
invariant-loop-table l = record {
  words : l.words ≡ sum_by (λ g. g.count * g.cells) l.groups + sum_by (λ t. t.size) (take l.table-index l.live);
  few : l.words ≤ 2 ^ 96 * 7 + 2 ^ 32 * l.table-index;
}
