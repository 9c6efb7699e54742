use Rattle.std.proofs.Common.{◌≡◌, ◌≤◌, None, replicate}
use Rattle.cs_typing.proofs.routines.RoutineTable.new.Given as goal

-- the list has one entry without a routine for each definition counted so far
abbrev pub invariant-loop : goal.invariant-loop
invariant-loop l = (l.counter ≤ l.definitions) × (l.by_definition.items ≡ replicate l.counter None)
