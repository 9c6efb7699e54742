use Rattle.std.proofs.Common.{◌≡◌, ◌++◌, drop}
use Rattle.cs_score.specs.Plain.{plain_of}
use Rattle.cs_score.proofs.Comments.{behind}
use Rattle.cs_score.proofs.comment.plain.Given as goal

abbrev pub invariant-loop-at : goal.invariant-loop-at
invariant-loop-at l = l.plain.items ++ behind l.hidden (drop l.at l.text) ≡ plain_of l.text
