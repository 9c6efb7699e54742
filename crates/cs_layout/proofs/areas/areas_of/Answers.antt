use Rattle.std.proofs.Common.{◌∙◌, ◌*◌, ◌++◌, ◌∷◌, [], ap, arith}
use Rattle.std.proofs.lemmas.List.Sums.{sum_by_more}
use Rattle.cs_layout.specs.declared.areas.GroupKind.TheVariants as kind
use Rattle.cs_layout.proofs.Made.{group_pushed, table_pushed}
use Rattle.cs_layout.proofs.areas.areas_of.Goals as goal

pub loop-group-preserved : goal.loop-group-preserved
loop-group-preserved c = record {
  next =
      let sum = sum_by_more (λ g. g.count * g.cells) c.args.groups.now c.loop-group.group-index
      (record { kind = kind.Gi; count = 0; cells = 0 }) c.loop-group-test.true in
      let was = c.loop-group.invariant.next in let cells =
      c.few_cells_of-next.ensures in omega (arith, sum, was, cells);
  made = group_pushed c.loop-group.areas.items c.push_group.new.areas.items c.args.groups.now c.loop-group.group-index
      (record { kind = kind.Gi; count = 0; cells = 0 }) c.loop-group.next c.loop-group-test.true
      c.loop-group.invariant.made c.loop-group.invariant.next c.in_ok-push_group.ensures;
}

pub loop-table-preserved : goal.loop-table-preserved
loop-table-preserved c = record {
  next =
      let sum = sum_by_more (λ t. t.size) c.args.live.now c.loop-table.table-index (record { number = 0; size = 0 })
      c.loop-table-test.true in
      let was = c.loop-table.invariant.next in omega (arith, sum, was);
  made = table_pushed c.loop-table.areas.items c.push.new.self.items c.args.groups.now c.args.live.now
      c.loop-table.table-index (record { number = 0; size = 0 }) c.loop-table.next c.loop-table-test.true
      c.loop-table.invariant.made c.loop-table.invariant.next
      (c.in_ok-push.ensures.items ∙ ap (λ x. c.loop-table.areas.items ++ x ∷ []) c.area.ensures);
}
