use Rattle.std.proofs.Common.{◌≡◌, ◌+◌, drop}
use Rattle.cs_base.specs.Comments.{close_of}
use Rattle.cs_base.proofs.comments.close_of.Given as goal

abbrev pub invariant-loop-at : goal.invariant-loop-at
invariant-loop-at l = l.at + close_of (drop l.at l.text) ≡ close_of l.text
