use Rattle.std.proofs.Common.{◌≡◌, ◌+◌, ◌++◌, ◌∙◌, List, Some, ap, arith, length, reverse, rules}
use Rattle.std.proofs.lemmas.{List.length-append, List.reverse-reverse, List.Sorted.All-permutation}
use Rattle.std.proofs.lemmas.List.Elements.{All-pop, All-same}
use Rattle.cs_row.specs.{Heard.HeardRow, Laws.all_notes, Rooms.IsEmptied}
use Rattle.cs_row.proofs.Emptying.{kept_or_not, more_notes, room_left}
use Rattle.cs_row.proofs.memory.empty_rows.Goals as goal

pub empty_into-requires : goal.empty_into-requires
empty_into-requires g c =
    let rows : List (HeardRow g.row.J.Denot) = c.args.rows.now.items in
    let whole : List g.row.J.Denot = c.args.notes.now.items ++ all_notes (reverse c.reverse.new.self.items) in
    let room = room_left c.loop.rows.items c.pop.new.self.items c.in-Some.row c.loop.notes.items whole
    c.in-Some.ensures.items c.loop.invariant.notes in
    let long = length-append c.args.notes.now.items (all_notes (reverse c.reverse.new.self.items)) in
    let back = ap (λ (rs : List (HeardRow g.row.J.Denot)). length (all_notes rs))
    (ap reverse c.reverse.ensures.items ∙ reverse-reverse rows) in
    let first = c.requires.room in
    let more = c.loop.invariant.capacity in
    record { room = omega (arith, room, long, back, first, more) }

pub loop-preserved : goal.loop-preserved
loop-preserved g c =
    let whole : List g.row.J.Denot = c.args.notes.now.items ++ all_notes (reverse c.reverse.new.self.items) in
    let row : HeardRow g.row.J.Denot = c.in-Some.row in
    let last = c.in-Some.ensures.items in
    let inv = c.loop.invariant in
    let left = c.empty_into.ensures.room in
    record {
      left = search rules;
      notes = more_notes c.loop.rows.items c.pop.new.self.items row c.loop.notes.items whole last inv.notes
          c.empty_into.new.notes.items c.empty_into.ensures.notes;
      capacity = omega (arith, inv.capacity, c.empty_into.ensures.capacity);
      rooms = λ block long emptied.
          let P : HeardRow g.row.J.Denot → Type 0 = λ r. length r.sum ≡ block in
          let before = inv.rooms block long emptied in
          let parts = All-pop P c.loop.rows.items c.pop.new.self.items (Some row) last before.0 in (
            parts.0,
            All-same (IsEmptied block) _ _ c.push.ensures.items
                (kept_or_not (IsEmptied block) _ c.loop.rooms.items c.empty_into.result before.1
                (record { notes = left.0; sum = ap length left.1 ∙ parts.1 })),
          );
    }

pub returns-clause-rooms : goal.returns-clause-rooms
returns-clause-rooms g c block long emptied =
    let P : HeardRow g.row.J.Denot → Type 0 = λ r. length r.sum ≡ block in
    (c.loop.invariant.rooms block
    (All-permutation P c.args.rows.now.items c.reverse.new.self.items c.reverse.ensures.permutation long) emptied).1
