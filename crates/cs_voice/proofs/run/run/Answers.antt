use Rattle.std.proofs.Common.{length, subst, sym}
use Rattle.std.proofs.lemmas.Result.{IfOk-weaker}
use Rattle.cs_cells.specs.Cells.{cell}
use Rattle.cs_ir.specs.Flat.{IsLow}
use Rattle.cs_ir.proofs.Lows.{whole_low}
use Rattle.cs_voice.specs.inner.Starters.{asked, finding}
use Rattle.cs_voice.proofs.Coming.{can_all, can_as, does_as, never_as, run_cycle, run_never, run_passes}
use Rattle.cs_voice.proofs.run.run.Goals as goal

pub steps_in-requires : goal.steps_in-requires
steps_in-requires g c = record {
  low = subst (IsLow (length c.parts.result.0.now)) (sym c.whole.ensures)
      (whole_low (length c.parts.result.0.now) c.parts.ensures.few);
  able = can_as (sym c.whole.ensures) (sym c.parts.ensures.ops)
      (can_all (g.B.Bank.access (g.B.Bank.rest c.args.bank.now)) c.args.at.now (finding c.args.starter.now)
      c.args.ops.now c.args.state.now (cell (g.B.Bank.cells c.args.bank.now)) (asked c.args.starter.now) c.requires);
}

pub returns-clause-cycle : goal.returns-clause-cycle
returns-clause-cycle g c = IfOk-weaker c.steps_in.result _ _
    (λ refused does. run_cycle (g.B.Bank.access (g.B.Bank.rest c.args.bank.now)) c.args.at.now
    (finding c.args.starter.now) c.args.ops.now c.args.state.now (cell (g.B.Bank.cells c.args.bank.now))
    (asked c.args.starter.now) c.steps_in.new.state (cell (g.B.Bank.cells c.steps_in.new.bank))
    (asked c.steps_in.new.starter) refused (does_as c.whole.ensures c.parts.ensures.ops does)) c.steps_in.ensures.does

pub returns-clause-passes : goal.returns-clause-passes
returns-clause-passes g c = IfOk-weaker c.steps_in.result _ _
    (λ refused does. run_passes (g.B.Bank.access (g.B.Bank.rest c.args.bank.now)) c.args.at.now
    (finding c.args.starter.now) c.args.ops.now c.args.state.now (cell (g.B.Bank.cells c.args.bank.now))
    (asked c.args.starter.now) c.steps_in.new.state (cell (g.B.Bank.cells c.steps_in.new.bank))
    (asked c.steps_in.new.starter) refused (does_as c.whole.ensures c.parts.ensures.ops does)) c.steps_in.ensures.does

pub returns-clause-memory : goal.returns-clause-memory
returns-clause-memory g c err = run_never (g.B.Bank.access (g.B.Bank.rest c.args.bank.now)) c.args.at.now
    (finding c.args.starter.now) c.args.ops.now c.args.state.now (cell (g.B.Bank.cells c.args.bank.now))
    (asked c.args.starter.now) (never_as c.whole.ensures c.parts.ensures.ops (c.steps_in.ensures.memory err))
