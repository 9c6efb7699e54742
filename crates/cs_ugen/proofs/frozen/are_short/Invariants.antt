use Rattle.std.proofs.Common.{ℕ, ◌<◌}
use Rattle.cs_signal.specs.Operands.{argument}
use Rattle.cs_ugen.specs.Points.{IsShort}
use Rattle.cs_ugen.proofs.frozen.are_short.Given as goal

abbrev pub invariant-loop-place : goal.invariant-loop-place
invariant-loop-place l = (i : ℕ) → i < l.place → IsShort (argument l.points i)
