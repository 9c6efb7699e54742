use Rattle.std.proofs.Common.{ℕ, List, drop}
use Rattle.std.specs.List.{AllZip}
use Rattle.cs_ir.specs.Drafts.{IsAt}
use Rattle.cs_code.proofs.Closing.{Closing}
use Rattle.cs_code.proofs.jumps.aim_all.Given as goal

abbrev pub invariant-loop-mark : goal.invariant-loop-mark
invariant-loop-mark l =
    (places : List ℕ) → AllZip (IsAt l.initial.ops) l.marks places
    → Closing l.initial.ops l.ops (drop l.mark-index l.marks) places
