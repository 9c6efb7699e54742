use Rattle.std.proofs.Common.{length}
use Rattle.cs_signal.specs.{Operands.argument, Biquad.biquad_step, Biquad.inputs_by, Walk.HasRun, inner.Short.AreShort}
use Rattle.cs_signal.proofs.biquad.Biquad.near_steps.Given as goal

abbrev pub invariant-loop-j : goal.invariant-loop-j
invariant-loop-j l = HasRun biquad_step (λ j. inputs_by (argument l.x j) l.by) l.fn.self (length l.fn.out)
    l.j l.unit l.out × AreShort l.unit
