use Rattle.std.proofs.Common.{ℕ, ℤ, List, length, ap, ◌∙◌, arith}
use Rattle.cs_signal.specs.{Operands.argument, Biquad.biquad_step, Biquad.inputs_by}
use Rattle.cs_signal.proofs.Walks.{HasRun_step, HasRun_end, read}
use Rattle.cs_signal.proofs.biquad.Biquad.held.Goals as goal

pub loop-j-init : goal.loop-j-init
loop-j-init c = c.near_steps-near.ensures.run

pub loop-j-preserved : goal.loop-j-preserved
loop-j-preserved c =
    let by = c.args.by.now in
    let at : ℕ → List ℤ = λ j. inputs_by (argument c.args.x.now j) by in
    let long = c.requires.x in
    let same = c.near_steps-near.ensures.run.long in
    let here = read c.args.x.now c.loop-j.j c.index-x-j.result c.index-x-j.is (omega arith) in
    HasRun_step biquad_step at c.args.self.now (length c.args.out.now) c.loop-j.j c.loop-j.self c.step.new.self
    c.loop-j.out c.step.result c.loop-j.invariant (omega arith)
    (c.step.ensures ∙ ap (λ z. biquad_step c.loop-j.self (inputs_by z by)) here)

pub returns : goal.returns
returns c =
    let same = c.near_steps-near.ensures.run.long in
    HasRun_end biquad_step (λ j. inputs_by (argument c.args.x.now j) c.args.by.now) c.args.self.now
    (length c.args.out.now) c.loop-j.j c.loop-j.self c.loop-j.out c.loop-j.invariant (omega arith)
