use Rattle.std.proofs.Common.{◌≡◌, ◌≤◌, ◌+◌, ◌*◌, ◌^◌, length, take, sum_by}
use Rattle.cs_layout.proofs.areas.count_of.Given as goal

abbrev pub invariant-loop-group : goal.invariant-loop-group
invariant-loop-group l = record {
  count : l.count ≡ length l.live + sum_by (λ g. g.count) (take l.group-index l.groups);
  few : l.count ≤ 2 ^ 64 * (l.group-index + 1);
}
