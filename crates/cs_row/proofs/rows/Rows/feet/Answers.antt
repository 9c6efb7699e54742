use Rattle.std.proofs.Common.{◌<◌, ◌∙◌, ap, arith, length, map, rules}
use Rattle.cs_row.specs.{Cuts.IsCut, Rows.row_foot}
use Rattle.cs_row.proofs.Filling.{all_taken, feet_more, first_below, next_first}
use Rattle.cs_row.proofs.rows.Rows.feet.Goals as goal

pub offset_bounds-notes-first : goal.offset_bounds-notes-first
offset_bounds-notes-first g c =
    let low : c.loop-at.at < length c.args.self.now.cuts.items =
    omega (arith, c.loop-at-test.true, c.len-at-end.ensures) in
    omega (
      arith,
      first_below c.requires.cut c.loop-at.at low c.loop-at.first
          (c.loop-at.invariant.each c.requires.cut).1,
    )

pub bounds-notes-first : goal.bounds-notes-first
bounds-notes-first g c =
    let low : c.loop-at.at < length c.args.self.now.cuts.items =
    omega (arith, c.loop-at-test.true, c.len-at-end.ensures) in
    first_below c.requires.cut c.loop-at.at low c.loop-at.first (c.loop-at.invariant.each c.requires.cut).1

pub overflow_add-first : goal.overflow_add-first
overflow_add-first g c =
    let low : c.loop-at.at < length c.args.self.now.cuts.items =
    omega (arith, c.loop-at-test.true, c.len-at-end.ensures) in
    let next = next_first c.requires.cut c.loop-at.at low c.loop-at.first c.index.result.now c.index.result.now
    (c.loop-at.invariant.each c.requires.cut).1 c.index.ensures in
    omega (arith, next, c.requires.few)

pub loop-at-preserved : goal.loop-at-preserved
loop-at-preserved g c =
    let low : c.loop-at.at < length c.args.self.now.cuts.items =
    omega (arith, c.loop-at-test.true, c.len-at-end.ensures) in
    let pushed = c.push_reserved.ensures in
    record {
      low = omega (arith, low);
      room = omega (arith, c.loop-at.invariant.room, pushed.capacity);
      count = search rules;
      each = λ cut.
          let so_far = c.loop-at.invariant.each cut in
          let next = feet_more cut c.loop-at.at low c.loop-at.feet.items c.loop-at.first c.index.result.now
          c.index.result.now c.index-notes-first.result c.in_ok-copy.field-0 so_far.0 so_far.1 c.index-notes-first.is
          (c.in_ok-copy.ensures ∙ c.footprint.ensures.foot) c.index.ensures in
          (pushed.items ∙ next.0, next.1);
    }

pub returns : goal.returns
returns g c rows of lengths =
    let cut : IsCut g.J.Job.means c.args.self.now.most c.args.notes.now c.args.self.now.cuts.items =
    record { rows = rows; of = of; lengths = lengths } in
    (c.loop-at.invariant.each cut).0 ∙ ap (map (row_foot g.J.Job.means))
    (all_taken cut c.loop-at.at (omega (arith, c.loop-at-test.false, c.len-at-end.ensures)))
