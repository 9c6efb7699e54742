use Rattle.std.proofs.Common.{◌<◌, ◌∙◌, ℕ, arith, get_or, length, subst, sym, take}
use Rattle.std.specs.List.{All}
use Rattle.std.proofs.lemmas.List.{length-set, take_all, take_more_set}
use Rattle.std.proofs.lemmas.List.Elements.{All-push, All-set}
use Rattle.cs_row.specs.{declared.row.RowRoom.RowRoom, Rooms.IsEmptied, Rooms.IsWide}
use Rattle.cs_row.proofs.memory.widen.Goals as goal

pub returns-in_err-reserve-clause-empty : goal.returns-in_err-reserve-clause-empty
returns-in_err-reserve-clause-empty g c block all =
    let rooms = c.loop-at.rooms in
    let at : ℕ = c.loop-at.at in
    let old = c.loop-at.invariant.empty block all in
    let low : at < length rooms = omega (arith, c.loop-at-test.true, c.loop-at.invariant.long) in
    let here = old at c.index-rooms-at.result low in
    All-set (IsEmptied block) rooms at
    (record { notes = c.reserve.new.self; sum = (get_or rooms at c.index-rooms-at.result).sum })
    (record { notes = c.in_err-reserve.ensures.items ∙ here.notes; sum = here.sum }) old

pub loop-at-preserved : goal.loop-at-preserved
loop-at-preserved g c =
    let rooms = c.loop-at.rooms in
    let at : ℕ = c.loop-at.at in
    let inv = c.loop-at.invariant in
    let low : at < length rooms = omega (arith, c.loop-at-test.true, inv.long) in
    let new : RowRoom g.row.J.Denot =
    record { notes = c.reserve.new.self; sum = (get_or rooms at c.index-rooms-at.result).sum } in
    let room = c.in_ok-reserve.ensures.ok in
    let long = length-set rooms at new in
    record {
      long = long ∙ inv.long;
      low = omega (arith, low, long);
      wide = subst (All (IsWide c.args.most)) (sym (take_more_set rooms at new low))
          (All-push (IsWide c.args.most) (take at rooms) new inv.wide (omega (arith, room)));
      empty = λ block all.
          let old = inv.empty block all in
          let here = old at c.index-rooms-at.result low in
          All-set (IsEmptied block) rooms at new
          (record { notes = c.in_ok-reserve.ensures.items ∙ here.notes; sum = here.sum }) old;
    }

pub returns-clause-wide : goal.returns-clause-wide
returns-clause-wide g c =
    let inv = c.loop-at.invariant in
    subst (All (IsWide c.args.most))
    (take_all c.loop-at.at c.loop-at.rooms (omega (arith, c.loop-at-test.false, inv.long))) inv.wide
