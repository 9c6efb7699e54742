use Rattle.std.proofs.Common.{◌≡◌}
use Rattle.cs_ir.specs.{Drafts.library_of, Routines.library_in}
use Rattle.cs_rows_trial.proofs.codes.routine_of.Given as goal

abbrev pub invariant-loop-row : goal.invariant-loop-row
invariant-loop-row l = library_of l.draft ≡ library_in l.routines
