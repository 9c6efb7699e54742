use Rattle.std.proofs.Common.{◌+◌, ◌*◌, length}
use Rattle.cs_ir.proofs.FineSteps.{HasPassed}
use Rattle.cs_ir.specs.Routines.{library_in}
use Rattle.cs_ir.proofs.validity.+fine.Given as goal

abbrev pub invariant-are_fine-loop-at : goal.invariant-are_fine-loop-at
invariant-are_fine-loop-at l = HasPassed (library_in l.routines) l.steps l.window l.counts l.at

abbrev pub decreases-are_fine : goal.decreases-are_fine
decreases-are_fine d = 2 * length d.routines.now + 1

abbrev pub decreases-is_call_fine : goal.decreases-is_call_fine
decreases-is_call_fine d = 2 * length d.routines.now
