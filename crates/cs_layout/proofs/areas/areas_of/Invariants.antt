use Rattle.std.proofs.Common.{◌≡◌, ◌+◌, ◌*◌, ◌++◌, take, sum_by}
use Rattle.std.specs.List.{flat_map}
use Rattle.cs_layout.specs.{Layouts.laid_from, Layouts.of_tables, inner.Groups.members}
use Rattle.cs_layout.proofs.areas.areas_of.Given as goal

abbrev pub invariant-loop-group : goal.invariant-loop-group
invariant-loop-group l = record {
  next : l.next ≡ sum_by (λ g. g.count * g.cells) (take l.group-index l.groups);
  made : l.areas.items ≡ laid_from 0 (flat_map members (take l.group-index l.groups));
}

abbrev pub invariant-loop-table : goal.invariant-loop-table
invariant-loop-table l = record {
  next : l.next ≡ sum_by (λ g. g.count * g.cells) l.groups + sum_by (λ t. t.size) (take l.table-index l.live);
  made : l.areas.items ≡ laid_from 0 (flat_map members l.groups ++ of_tables (take l.table-index l.live));
}
