use Rattle.std.proofs.Common.{◌+◌, ◌*◌, ◌-◌, length}
use Rattle.cs_cells.specs.Cells.{cell}
use Rattle.cs_ir.specs.Routines.{library_in}
use Rattle.cs_voice.specs.inner.Starters.{asked, finding}
use Rattle.cs_voice.proofs.Coming.{IsAt}
use Rattle.cs_voice.proofs.run.+run.Given as goal

-- The code was done up to this step, in either way in which it can be done.
abbrev pub invariant-steps_in-loop-place : goal.invariant-steps_in-loop-place
invariant-steps_in-loop-place g l = IsAt g.B.Bank.access (g.B.Bank.rest l.initial.bank) (g.B.Bank.rest l.bank)
    l.at (finding l.initial.starter) (finding l.starter) (library_in l.code.routines.now) l.code.steps.now
    l.code.window l.initial.state (cell (g.B.Bank.cells l.initial.bank)) (asked l.initial.starter) l.place l.state
    (cell (g.B.Bank.cells l.bank)) (asked l.starter)

abbrev pub decreases-steps_in-loop-place : goal.decreases-steps_in-loop-place
decreases-steps_in-loop-place g l = length l.steps - l.place

-- a routine invokes only earlier ones
abbrev pub decreases-steps_in : goal.decreases-steps_in
decreases-steps_in g l = 2 * length l.code.now.routines.now + 1

abbrev pub decreases-invoke : goal.decreases-invoke
decreases-invoke g l = 2 * length l.code.now.routines.now
