use Rattle.std.proofs.Common.{arith, ap, drop, subst, sym}
use Rattle.std.proofs.lemmas.List.{drop-drop, drop_all, take_rest}
use Rattle.cs_time.specs.Time.{Rises, time_along}
use Rattle.cs_time.proofs.Times.{none_left, rises_behind, rises_small}
use Rattle.cs_time.proofs.time.time_along.Goals as goal

pub returns-then-beat-points : goal.returns-then-beat-points
returns-then-beat-points c =
    let z = none_left c.args.points.now c.loop-k.k (record { beat = 0; tempo = 0 }) c.args.beat (omega arith)
    c.loop-k.invariant.rises c.if-beat-points.true in
    omega (arith, z, c.loop-k.invariant.time)

pub overflow_add-time : goal.overflow_add-time
overflow_add-time c =
    let s = rises_small c.args.points.now c.args.beat c.requires.rising in
    let part = rw (take_rest c.args.points.now c.loop-k.k) at c.first_part-time.ensures in
    omega (arith, s, c.loop-k.invariant.time, part)

pub first_part-time-requires-clause-rising : goal.first_part-time-requires-clause-rising
first_part-time-requires-clause-rising c =
    subst Rises (sym (take_rest c.args.points.now c.loop-k.k)) c.loop-k.invariant.rises

pub loop-k-preserved : goal.loop-k-preserved
loop-k-preserved c =
    let ps = c.args.points.now in
    let k = c.loop-k.k in
    let part = rw (take_rest ps k) at c.first_part-time.ensures in
    let left = ap (λ ps. time_along ps c.args.beat) (drop-drop 1 k ps) in
    record {
      time = omega (arith, part, left, c.loop-k.invariant.time);
      rises = subst Rises (drop-drop 1 k ps) (rises_behind (drop k ps) c.loop-k.invariant.rises);
    }

pub returns : goal.returns
unfolding time_along
returns c =
    let e = ap (λ ps. time_along ps c.args.beat) (drop_all c.loop-k.k c.args.points.now c.loop-k-test.false) in
    record { time = omega (arith, e, c.loop-k.invariant.time) }
