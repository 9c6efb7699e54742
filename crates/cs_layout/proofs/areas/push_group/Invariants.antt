use Rattle.std.proofs.Common.{◌≡◌, ◌+◌, ◌*◌, ◌++◌}
use Rattle.cs_layout.specs.{Layouts.laid_from, Layouts.numbered, inner.Groups.res_of}
use Rattle.cs_layout.proofs.areas.push_group.Given as goal

abbrev pub invariant-loop-number : goal.invariant-loop-number
invariant-loop-number l = record {
  next : l.next ≡ l.first + l.number * l.group.cells;
  made : l.areas.items ≡ l.initial.areas.items
      ++ laid_from l.first (numbered (res_of l.group.kind) l.number l.group.cells);
}
