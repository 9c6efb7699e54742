use Rattle.std.proofs.Common.{◌≡◌, ◌++◌, take, drop}
use Rattle.cs_score.specs.inner.State.{filled}
use Rattle.cs_score.proofs.carry.filled.Given as goal

abbrev pub invariant-loop-k : goal.invariant-loop-k
invariant-loop-k l = l.fields.items ≡ take l.k (filled l.written l.initial.fields.items)
    ++ drop l.k l.initial.fields.items
