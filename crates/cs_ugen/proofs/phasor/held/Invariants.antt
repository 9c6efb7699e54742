use Rattle.std.proofs.Common.{◌∷◌, [], ◌<◌, length}
use Rattle.cs_ugen.specs.{Phases.at_phase, Phases.turn, Phasor.phasor_step}
use Rattle.cs_signal.specs.Walk.{HasRun}
use Rattle.cs_ugen.proofs.phasor.held.Given as goal

abbrev pub invariant-loop-j : goal.invariant-loop-j
invariant-loop-j l =
    HasRun phasor_step (λ j. l.fn.cps ∷ []) l.fn.unit (length l.fn.out) l.j (at_phase l.fn.unit l.phase) l.out
    × (l.phase < turn)
