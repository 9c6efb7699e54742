use Rattle.std.proofs.Common.{◌<◌, ◌+◌, ◌∙◌, ap, length, map, subst, sym}
use Rattle.std.proofs.lemmas.Result.{IfOk-weaker}
use Rattle.cs_ir.specs.{Placed.there, Waves.first_values}
use Rattle.cs_machine.specs.Registers.{values}
use Rattle.cs_voice.proofs.Fitting.{acts_there, is_some_start}
use Rattle.cs_voice.proofs.Passed.{all_played, asked_op, sought_op, start_takes, start_there, started_op}
use Rattle.cs_voice.proofs.starter.Starter.start.Goals as goal

pub begin-requires-clause-unit : goal.begin-requires-clause-unit
begin-requires-clause-unit c =
    let can = c.requires.able.1 in
    subst (λ u. u < length c.args.state.now.players.items) (sym c.unit.ensures)
    (subst (λ n. c.args.op.window.now.unit + c.in-Start.unit < n) (sym (can.state.in_piece can.playable).units)
    (start_there c.args.state.now.regs.counts can.fine.end can.fine.place (c.args.op.window.now.unit + c.in-Start.unit)
    c.in-Start.opcode (there c.args.op) can.fine.fine (acts_there c.args.op c.in-Start.is)))

pub begin-requires-clause-opcode : goal.begin-requires-clause-opcode
begin-requires-clause-opcode c =
    let can = c.requires.able.1 in
    start_takes c.args.state.now.regs.counts can.fine.end can.fine.place (c.args.op.window.now.unit + c.in-Start.unit)
    c.in-Start.opcode (there c.args.op) can.fine.fine (acts_there c.args.op c.in-Start.is)

pub begin-requires-clause-tables : goal.begin-requires-clause-tables
begin-requires-clause-tables c =
    all_played c.args.self.now.finds.now c.args.self.now.made.now c.requires.able.0 c.requires.able.1.found

pub returns-in-Start-clause-does : goal.returns-in-Start-clause-does
returns-in-Start-clause-does c = IfOk-weaker c.begin.result _ _
    (λ refused starts s cells can.
    started_op c.args.self.now.finds.now c.args.self.now.made.now s (there c.args.op) c.in-Start.opcode
    (c.args.op.window.now.unit + c.in-Start.unit) c.unit.result c.rate.result c.deref.result.now c.args.state.now
    c.begin.new.state cells c.args.self.now.asks.items refused
    (acts_there c.args.op c.in-Start.is) c.unit.ensures c.rate.ensures can.found can.playable can.fine can.state
    (c.deref.ensures.value ∙ c.in_ok-gather.ensures
    ∙ ap (λ xs. first_values (map (values c.args.state.now.regs) xs)) c.reads.ensures) starts) c.begin.ensures

pub returns-in-Seek-clause-does : goal.returns-in-Seek-clause-does
returns-in-Seek-clause-does c s cells can =
    sought_op c.args.self.now.finds.now c.args.self.now.made.now s (there c.args.op) c.deref-in-Seek.result.now
    c.args.state.now cells c.args.self.now.asks.items c.seek-refused.result
    (acts_there c.args.op c.in-Seek.is) can.found can.state (c.deref-in-Seek.ensures.value ∙ c.in_ok-gather.ensures
    ∙ ap (λ xs. first_values (map (values c.args.state.now.regs) xs)) c.reads.ensures) c.seek-refused.ensures

pub returns-in_ok-ask-in-Ask-clause-does : goal.returns-in_ok-ask-in-Ask-clause-does
returns-in_ok-ask-in-Ask-clause-does c s cells can =
    asked_op s (there c.args.op) c.deref-in-Ask.result.now c.args.state.now cells c.args.self.now.asks.items
    c.ask.new.asks.items (acts_there c.args.op c.in-Ask.is) can.state
    (c.deref-in-Ask.ensures.value ∙ c.in_ok-gather.ensures
    ∙ ap (λ xs. first_values (map (values c.args.state.now.regs) xs)) c.reads.ensures) c.in_ok-ask-in-Ask.ensures

pub unreachable-requires : goal.unreachable-requires
unreachable-requires c = is_some_start c.args.op.window.now c.args.op.op.now.act c.requires.here
    c.in_default.not-Start c.in_default.not-Seek c.in_default.not-Ask
