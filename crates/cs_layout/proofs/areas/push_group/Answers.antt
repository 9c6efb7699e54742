use Rattle.std.proofs.Common.{◌∙◌, ◌++◌, ◌∷◌, [], ap}
use Rattle.cs_layout.specs.inner.Groups.{res_of}
use Rattle.cs_layout.proofs.Made.{next_is, one_pushed}
use Rattle.cs_layout.proofs.areas.push_group.Goals as goal

pub loop-number-preserved : goal.loop-number-preserved
loop-number-preserved c = record {
  next = next_is c.args.first c.loop-number.number c.args.group.cells c.loop-number.next c.loop-number.invariant.next;
  made = one_pushed c.args.areas.now.items c.loop-number.areas.items c.push.new.self.items (res_of c.args.group.kind)
      c.args.first c.loop-number.number c.args.group.cells c.loop-number.next
      c.loop-number.invariant.made c.loop-number.invariant.next
      (c.in_ok-push.ensures.items
      ∙ ap (λ x. c.loop-number.areas.items ++ x ∷ [])
      (c.area.ensures ∙ ap (λ r. record { res = r; first = c.loop-number.next; length = c.args.group.cells })
      c.res.ensures));
}
