use Rattle.std.proofs.Common.{length, ◌-◌, ◌≡◌, ◌≤◌, ◌++◌, drop, map}
use Rattle.cs_score.specs.Fields.{field_of}
use Rattle.cs_score.specs.Rows.{words}
use Rattle.cs_score.proofs.row.fields_of.Given as goal

abbrev pub invariant-loop-at : goal.invariant-loop-at
invariant-loop-at l = record {
  within : l.at ≤ length l.line;
  read : l.fields ++ map field_of (words (drop l.at l.line)) ≡ map field_of (words l.line);
}

abbrev pub decreases-loop-at : goal.decreases-loop-at
decreases-loop-at l = length l.line - l.at
