use Rattle.std.proofs.Common.{◌≡◌, ◌∷◌, ◌<◌, length}
use Rattle.cs_ugen.specs.{Oscil.wave_step, Phases.at_phase, Phases.turn}
use Rattle.cs_signal.specs.{Operands.operand_at, Walk.HasRun}
use Rattle.cs_ugen.proofs.oscillator.held.Given as goal

abbrev pub invariant-loop-j : goal.invariant-loop-j
invariant-loop-j g l =
    HasRun (wave_step g.R.Reading.on_turn) (λ j. operand_at l.fn.amp j ∷ l.fn.cps ∷ g.C.Curve.points l.fn.curve)
    l.fn.unit (length l.fn.out) l.j (at_phase l.fn.unit l.phase) l.out
    × (l.phase < turn) × (g.C.Curve.points l.curve ≡ g.C.Curve.points l.fn.curve) × g.C.Curve.kept l.fn.curve l.curve
