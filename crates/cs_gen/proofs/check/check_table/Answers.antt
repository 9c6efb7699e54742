use Rattle.std.proofs.Common.{rules}
use Rattle.cs_gen.specs.Faults.{table_fault}
use Rattle.cs_gen.proofs.Places.{accepted-bounds}
use Rattle.cs_gen.proofs.check.check_table.Goals as goal

pub returns-then-not-is_size-clause-refused : goal.returns-then-not-is_size-clause-refused
unfolding table_fault
returns-then-not-is_size-clause-refused c = search rules

pub returns-then-not-is_gen-clause-refused : goal.returns-then-not-is_gen-clause-refused
unfolding table_fault
returns-then-not-is_gen-clause-refused c = search rules

pub returns-then-has_negative_length-clause-refused : goal.returns-then-has_negative_length-clause-refused
unfolding table_fault
returns-then-has_negative_length-clause-refused c = search rules

pub returns-clause-accepted : goal.returns-clause-accepted
unfolding table_fault
returns-clause-accepted c = search rules

pub returns-clause-size : goal.returns-clause-size
returns-clause-size c = accepted-bounds c.args.size c.args.gen_ c.args.args.now (returns-clause-accepted c)
