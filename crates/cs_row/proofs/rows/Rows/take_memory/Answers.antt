use Rattle.std.proofs.Common.{◌∙◌, subst, sym}
use Rattle.std.specs.List.{All}
use Rattle.std.proofs.lemmas.{List.Elements.All-same, List.with_items_is}
use Rattle.cs_row.specs.Rooms.{IsEmptied}
use Rattle.cs_row.proofs.rows.Rows.take_memory.Goals as goal

pub invariant_of-self-in-Break-branch-2 : goal.invariant_of-self-in-Break-branch-2
invariant_of-self-in-Break-branch-2 g c =
    let n = c.args.self.now.block in
    let emptied = c.widen.ensures.empty n
    (subst (All (IsEmptied n)) (sym c.deref_mut.ensures.value) c.args.self.now.empty.0) in
    record {
      empty = (
        All-same (IsEmptied n) _ _ (with_items_is c.args.self.now.rooms c.widen.new.rooms
            (c.widen.ensures.long ∙ c.deref_mut.ensures.len)) emptied,
        c.reserve.ensures.items ∙ c.args.self.now.empty.1,
      );
    }

pub add_rooms-requires-clause-empty : goal.add_rooms-requires-clause-empty
add_rooms-requires-clause-empty g c =
    let n = c.args.self.now.block in
    let emptied = c.widen.ensures.empty n
    (subst (All (IsEmptied n)) (sym c.deref_mut.ensures.value) c.args.self.now.empty.0) in
    All-same (IsEmptied n) _ _ (with_items_is c.args.self.now.rooms c.widen.new.rooms
    (c.widen.ensures.long ∙ c.deref_mut.ensures.len)) emptied
