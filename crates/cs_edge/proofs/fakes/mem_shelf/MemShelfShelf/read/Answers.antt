use Rattle.std.proofs.Common.{refl}
use Rattle.cs_edge.proofs.Causes.{one_fault, same_faults}
use Rattle.cs_edge.proofs.fakes.mem_shelf.MemShelfShelf.read.Goals as goal

pub returns-then-call_fails-clause-cause : goal.returns-then-call_fails-clause-cause
returns-then-call_fails-clause-cause c =
    one_fault c.args.self.now.script.faults c.call_fails.new.self.faults _ (c.if-call_fails.ensures.rose refl)
    c.if-call_fails.ensures.later

pub returns-then-call_fails-clause-listed : goal.returns-then-call_fails-clause-listed
returns-then-call_fails-clause-listed c =
    let told = c.if-call_fails.ensures in record { counted = told.calls; fails = told.listed; same = told.failing }

pub returns-then-call_fails-clause-moves : goal.returns-then-call_fails-clause-moves
returns-then-call_fails-clause-moves c = c.add.ensures

pub returns-clause-cause : goal.returns-clause-cause
returns-clause-cause c =
    same_faults c.args.self.now.script.faults c.call_fails.new.self.faults c.copy_front-n.result
    (c.if-call_fails.ensures.same refl)

pub returns-clause-listed : goal.returns-clause-listed
returns-clause-listed c =
    let told = c.if-call_fails.ensures in record { counted = told.calls; fails = told.listed; same = told.failing }

pub returns-clause-moves : goal.returns-clause-moves
returns-clause-moves c = c.add.ensures
