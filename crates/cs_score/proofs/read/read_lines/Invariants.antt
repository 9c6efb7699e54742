use Rattle.std.proofs.Common.{◌≡◌, ◌≤◌, ◌-◌, length, take, All}
use Rattle.cs_score.specs.Ranges.{IsInRange}
use Rattle.cs_base.specs.Lines.{line_after}
use Rattle.cs_score.proofs.Reading.{Read}
use Rattle.cs_score.proofs.read.read_lines.Given as goal

abbrev pub invariant-loop-at : goal.invariant-loop-at
invariant-loop-at l = record {
  within : l.at ≤ length l.plain;
  line : l.line ≡ line_after l.text.first_line (take l.at l.text.bytes);
  read : Read l.text l.plain l.at l.past l.kept;
  ranges : All IsInRange l.kept.statements;
}

abbrev pub decreases-loop-at : goal.decreases-loop-at
decreases-loop-at l = length l.plain - l.at
