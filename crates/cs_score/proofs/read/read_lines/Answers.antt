use Rattle.std.proofs.Common.{length, arith, ap, sym, ◌∙◌, Err}
use Rattle.cs_score.proofs.Comments.{length-plain}
use Rattle.cs_score.proofs.Reading.{all_read, last_line_read, line_fault_read, line_read, nothing_read}
use Rattle.cs_score.proofs.read.read_lines.Goals as goal

pub loop-at-init : goal.loop-at-init
loop-at-init c = record {
  within = omega arith;
  line = omega (arith, c.first_line-line.ensures.value);
  read = nothing_read c.args.text.now c.args.plain.now c.args.past.now c.args.kept.now c.requires.plain
      c.requires.keeps c.requires.holds;
  ranges = λ k d h. absurd (omega (arith, ap length c.requires.none, h));
}

pub read_line-requires-clause-plain : goal.read_line-requires-clause-plain
read_line-requires-clause-plain c = ap length c.requires.plain ∙ length-plain c.args.text.now.bytes

pub returns-in_err-ends-clause-fault : goal.returns-in_err-ends-clause-fault
returns-in_err-ends-clause-fault c = λ f e.
    let text = c.args.text.now in
    let read = c.in_ok-read.read in
    let same = rw e at c.from_residual-in_err-ends.ensures.1 in
    line_fault_read text c.args.plain.now c.loop-at.at read.next c.loop-at.past c.loop-at.kept read.row f
    c.in_ok-read.ensures.row
    (c.read_row.ensures.fault f (c.in_err-ends.was ∙ ap Err (sym same))) c.loop-at.invariant.read

pub loop-at-preserved : goal.loop-at-preserved
loop-at-preserved c =
    let text = c.args.text.now in
    let read = c.in_ok-read.read in
    record {
      within = omega (arith, c.in_ok-read.ensures.next);
      line = c.in_ok-read.ensures.line;
      read = line_read text c.args.plain.now c.loop-at.at read.next c.loop-at.past _ c.loop-at.kept _ read.row
          c.in_ok-ends.ends c.in_ok-read.ensures.row c.in_ok-ends.ensures.read c.if-ends.false c.loop-at.invariant.read;
      ranges = c.in_ok-ends.ensures.ranges c.loop-at.invariant.ranges;
    }

pub returns-clause-whole : goal.returns-clause-whole
returns-clause-whole c =
    all_read c.args.text.now c.args.plain.now c.loop-at.at c.loop-at.past c.loop-at.kept
    (omega (arith, c.loop-at-test.false)) c.loop-at.invariant.read

pub returns-then-ends-clause-whole : goal.returns-then-ends-clause-whole
returns-then-ends-clause-whole c =
    let text = c.args.text.now in
    let read = c.in_ok-read.read in
    last_line_read text c.args.plain.now c.loop-at.at read.next c.loop-at.past _ c.loop-at.kept _ read.row
    c.in_ok-ends.ends c.in_ok-read.ensures.row c.in_ok-ends.ensures.read c.if-ends.true c.loop-at.invariant.read
