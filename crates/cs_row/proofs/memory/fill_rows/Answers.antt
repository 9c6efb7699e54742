use Rattle.std.proofs.Common.{◌≡◌, ◌∷◌, [], ◌∙◌, List, ap, arith, get_or, length, refl, reverse, rules, subst, sym}
use Rattle.std.proofs.lemmas.List.{length-reverse, map-append, reverse-reverse}
use Rattle.std.proofs.lemmas.List.Elements.{All-nil, All-push, All-same, All-take}
use Rattle.cs_row.specs.{Heard.HeardRow, Laws.jobs_of, Rooms.IsEmptied, Rooms.IsWide, Rows.IsRow}
use Rattle.cs_row.proofs.Filling.{all_taken, count, fills, is_row, longer, next_first, next_length, none_left}
use Rattle.cs_row.proofs.Filling.{nothing_left, row_shapes, rows_more, short}
use Rattle.cs_row.proofs.memory.fill_rows.Goals as goal

pub loop-at-init : goal.loop-at-init
loop-at-init g c = record {
  low = omega arith;
  each = λ most cut. (
    ap jobs_of c.requires.places.0,
    (ap reverse c.reverse.ensures.items ∙ reverse-reverse c.args.notes.now.items ∙ sym cut.of.whole, refl),
  );
  rooms = search rules;
  wide = λ most all. all;
  empty = λ block all. all;
  sums = λ block all. let P : HeardRow g.row.J.Denot → Type 0 = λ r. length r.sum ≡ block in
      All-same P _ _ c.requires.places.0 (All-nil P);
  places = refl;
  filled = ap length c.requires.places.0;
  capacity = refl;
}

pub take_room-room-requires-clause-empty : goal.take_room-room-requires-clause-empty
take_room-room-requires-clause-empty g c k d low =
    let cut = c.requires.fill.2.cut in
    let wide = c.loop-at.invariant.wide c.requires.fill.0 c.requires.fill.4 k d low in
    let long = count cut c.loop-at.at c.loop-at-test.true 0 in
    let few = short cut c.loop-at.at c.loop-at-test.true in
    ((c.loop-at.invariant.empty c.requires.fill.1 c.requires.fill.3 k d low).notes, omega (arith, wide, long, few))

pub take_room-room-requires-clause-there : goal.take_room-room-requires-clause-there
take_room-room-requires-clause-there g c =
    let cut = c.requires.fill.2.cut in
    let left = ap length (c.loop-at.invariant.each c.requires.fill.0 cut).1.0 in
    let long = count cut c.loop-at.at c.loop-at-test.true 0 in
    let more = longer cut c.loop-at.at c.loop-at-test.true in
    omega (arith, left, long, more, length-reverse c.loop-at.notes.items)

pub new-requires : goal.new-requires
new-requires g c =
    let f = c.requires.fill.2 in
    let room = c.take_room-room in
    let each = (c.loop-at.invariant.each c.requires.fill.0 f.cut).1 in
    let same = fills f.cut c.loop-at.at c.loop-at-test.true room.result.notes.items (reverse room.new.notes.items) 0
    room.ensures.count (room.ensures.moved ∙ each.0) in
    let next = next_first f.cut c.loop-at.at c.loop-at-test.true c.loop-at.first (length room.result.notes.items) 0
    each.1 room.ensures.count in
    let few = f.few in
    record {
      row = subst (IsRow g.J.Job.means) (sym same.first) (is_row f.cut c.loop-at.at c.loop-at-test.true);
      few = (omega (arith, next, few), omega (arith, next, few));
      long = (
        f.frames,
        f.channels,
        row_shapes f.cut c.loop-at.at c.loop-at-test.true (λ j. g.J.Heard.shape j ≡ (f.frames, f.channels)) f.alike
            room.result.notes.items same.first,
        room.ensures.sum c.requires.fill.1 (c.loop-at.invariant.empty c.requires.fill.1 c.requires.fill.3) ∙ f.size,
      );
    }

pub overflow_add-first : goal.overflow_add-first
overflow_add-first g c =
    let f = c.requires.fill.2 in
    let next = next_first f.cut c.loop-at.at c.loop-at-test.true c.loop-at.first
    (get_or c.args.cuts.now c.loop-at.at 0) 0 (c.loop-at.invariant.each c.requires.fill.0 f.cut).1.1 refl in
    let few = f.few in
    omega (arith, next, few)

pub loop-at-preserved : goal.loop-at-preserved
loop-at-preserved g c =
    let at = c.loop-at.at in
    let here = c.loop-at-test.true in
    let room = c.take_room-room.ensures in
    let rows : List (HeardRow g.row.J.Denot) = c.loop-at.rows.items in
    let row : HeardRow g.row.J.Denot = c.new.result in
    let inv = c.loop-at.invariant in
    let pushed = c.push_reserved.ensures in
    record {
      low = omega (arith, here);
      each = λ most cut.
          let so_far = inv.each most cut in
          let same = fills cut at here c.take_room-room.result.notes.items (reverse c.take_room-room.new.notes.items)
          0 room.count (room.moved ∙ so_far.1.0) in
          let long = count cut at here 0 in
          let next = next_length cut at here in
          let first = so_far.1.1 in (
            ap jobs_of pushed.items ∙ map-append (λ (r : HeardRow g.row.J.Denot). r.jobs) rows (row ∷ [])
                ∙ rows_more cut at here (jobs_of rows) row.jobs so_far.0 (c.new.ensures.0 ∙ same.first),
            (same.then_same, omega (arith, first, long, next)),
          );
      rooms = search rules;
      wide = λ most all. All-same (IsWide most) _ _ room.left (All-take (IsWide most) _ _ (inv.wide most all));
      empty = λ block all.
          All-same (IsEmptied block) _ _ room.left (All-take (IsEmptied block) _ _ (inv.empty block all));
      sums = λ block all.
          let P : HeardRow g.row.J.Denot → Type 0 = λ r. length r.sum ≡ block in
          All-same P _ _ pushed.items
          (All-push P rows row (inv.sums block all) (c.new.ensures.1 ∙ room.sum block (inv.empty block all)));
      places = pushed.capacity ∙ inv.places;
      filled = search rules;
      capacity = room.capacity ∙ inv.capacity;
    }

pub returns-clause-rows : goal.returns-clause-rows
returns-clause-rows g c most cut =
    (c.loop-at.invariant.each most cut).0 ∙ all_taken cut c.loop-at.at (omega (arith, c.loop-at-test.false))

pub returns-clause-notes : goal.returns-clause-notes
returns-clause-notes g c =
    let cut = c.requires.fill.2.cut in
    nothing_left c.loop-at.notes.items ((c.loop-at.invariant.each c.requires.fill.0 cut).1.0
    ∙ none_left cut c.loop-at.at (omega (arith, c.loop-at-test.false)))
