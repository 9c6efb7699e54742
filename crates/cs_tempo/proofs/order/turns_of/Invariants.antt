use Rattle.std.proofs.Common.{◌≡◌, ◌++◌, drop}
use Rattle.cs_tempo.specs.inner.Turns.{turns_from}
use Rattle.cs_tempo.proofs.order.turns_of.Given as goal

abbrev pub invariant-loop-index : goal.invariant-loop-index
invariant-loop-index l = l.turns.items ++ turns_from l.index (drop l.index l.section) ≡ turns_from 0 l.section
