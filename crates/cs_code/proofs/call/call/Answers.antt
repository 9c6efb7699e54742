use Rattle.std.proofs.Common.{sym}
use Rattle.cs_words.specs.Catalogue.{row_of}
use Rattle.cs_code.specs.inner.Emitted.{assignment_of, arguments_of}
use Rattle.cs_code.proofs.Calls.{call_assigned, call_effect, call_lowered}
use Rattle.cs_code.proofs.call.call.Goals as goal

pub returns-in-Some : goal.returns-in-Some
returns-in-Some c =
    let k = c.args.call.now in
    let sp = c.args.at.context.spaces in
    call_lowered c.args.at.context.pass c.args.ops.now c.assign.new.ops c.args.at.before sp k _ c.assign.result
    (call_assigned sp k.rate k.results.now k.opcode (row_of k.opcode).shape (arguments_of k)
    (assignment_of c.in-Some.assignment) (sym c.in-Some.ensures)) c.assign.ensures.ops c.assign.ensures.next

pub returns-in-None : goal.returns-in-None
returns-in-None c =
    let k = c.args.call.now in
    let sp = c.args.at.context.spaces in
    call_lowered c.args.at.context.pass c.args.ops.now c.effect.new.ops c.args.at.before sp k _ c.effect.result
    (call_effect sp k.rate k.results.now k.opcode (row_of k.opcode).shape (arguments_of k) (sym c.in-None.ensures))
    c.effect.ensures.ops c.effect.ensures.next
