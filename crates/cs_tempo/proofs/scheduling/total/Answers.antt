use Rattle.std.proofs.Common.{◌+◌, ◌<◌, ◌≡◌, length, map, sum, arith, ap, sym, subst, length-drop}
use Rattle.std.specs.List.{All}
use Rattle.std.proofs.lemmas.List.Elements.{All-drop, All-take}
use Rattle.cs_score.specs.Ranges.{IsInRange}
use Rattle.cs_tempo.specs.Sections.{length_of, sections_of}
use Rattle.cs_tempo.proofs.Plots.{length_first, length_last}
use Rattle.cs_tempo.proofs.scheduling.total.Goals as goal

pub section_length-requires : goal.section_length-requires
section_length-requires c =
    All-take IsInRange c.section_end-end.result c.loop-total.left.now c.loop-total.invariant.range

pub loop-total-preserved : goal.loop-total-preserved
loop-total-preserved c =
    let head = c.args.head.now in
    let left = c.loop-total.left.now in
    let end = c.section_end-end.result in
    let some : end < length left = omega (arith, c.section_end-end.ensures.within, c.if-end-left.false) in
    let split = length_first head left end c.loop-total.total (c.section_end-end.ensures.ended some) in
    let there = c.behind-left.ensures in
    let rest = ap (λ b. sum (map (length_of head) (sections_of b))) there in
    let section = c.in_ok-section_length.ensures in
    let so_far = c.loop-total.invariant in
    record {
      sum = omega (arith, c.from.ensures, section.length, split, rest, so_far.sum);
      small = omega (arith, c.from.ensures, section.small, ap length there, length-drop (end + 1) left, so_far.small);
      range = subst (All IsInRange) (sym there) (All-drop IsInRange (end + 1) left so_far.range);
    }

pub returns-then-end-left-clause-sum : goal.returns-then-end-left-clause-sum
returns-then-end-left-clause-sum c =
    let head = c.args.head.now in
    let left = c.loop-total.left.now in
    let end = c.section_end-end.result in
    let all : end ≡ length left = omega (arith, c.if-end-left.true) in
    let last = length_last head left end (c.section_end-end.ensures.last all) all in
    omega (arith, c.from.ensures, c.in_ok-section_length.ensures.length, last, c.loop-total.invariant.sum)
