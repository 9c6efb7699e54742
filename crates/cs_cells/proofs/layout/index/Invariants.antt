use Rattle.std.proofs.Common.{◌≡◌, take}
use Rattle.cs_cells.specs.inner.Index.{keys_of}
use Rattle.cs_cells.proofs.layout.index.Given as goal

abbrev pub invariant-loop-area : goal.invariant-loop-area
invariant-loop-area l = l.keys.keys ≡ keys_of (take l.area-index l.areas)
