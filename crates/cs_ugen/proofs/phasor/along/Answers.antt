use Rattle.std.proofs.Common.{length, refl, ap, ◌∙◌, arith}
use Rattle.cs_ugen.specs.{Phases.at_phase, Phases.increment, Phases.within_turn, Phasor.phasor_step, Phasor.ramp}
use Rattle.cs_signal.proofs.Walks.{read}
use Rattle.cs_signal.specs.Operands.{argument}
use Rattle.cs_ugen.proofs.Loops.{held_none, held_more, held_end}
use Rattle.cs_ugen.proofs.phasor.along.Goals as goal

pub loop-j-init : goal.loop-j-init
loop-j-init c =
    let same = c.get-phase.ensures.value ∙ ap (λ p. p.phase) (c.copied-turning.ensures ∙ c.unit.view_is) in (
      held_none phasor_step _ c.args.unit.now c.get-phase.result c.args.out.now same,
      c.get-phase.ensures.small,
    )

pub loop-j-preserved : goal.loop-j-preserved
loop-j-preserved c =
    let t = c.args.unit.now in
    let so_far = c.loop-j.invariant in
    let long = c.requires in
    let cps = read c.args.cps.now c.loop-j.j c.index-cps-j.result c.index-cps-j.is (omega arith) in
    let parts = c.parts_at.ensures.value
    ∙ ap (λ p. within_turn (increment p.rate p.pace c.index-cps-j.result)) (c.copied-turning.ensures ∙ c.unit.view_is)
    ∙ ap (λ z. within_turn (increment t.rate t.pace z)) cps in (
      held_more phasor_step _ t (argument c.args.cps.now c.loop-j.j) (length c.args.out.now) c.loop-j.j
          c.parts_at.result c.loop-j.phase c.moved-phase.result c.loop-j.out
          c.ramp.result (ramp c.loop-j.phase) so_far.0 c.loop-j-test.true parts c.moved-phase.ensures.value
          c.ramp.ensures refl,
      c.moved-phase.ensures.small,
    )

pub returns : goal.returns
returns c =
    let so_far = c.loop-j.invariant in
    held_end phasor_step _ c.args.unit.now c.set.new.self (length c.args.out.now) c.loop-j.j c.loop-j.phase c.loop-j.out
    so_far.0 c.loop-j-test.false (c.set.ensures ∙ ap (λ p. at_phase p c.loop-j.phase) c.unit.view_is)
