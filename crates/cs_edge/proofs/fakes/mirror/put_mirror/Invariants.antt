use Rattle.std.proofs.Common.{◌++◌, take, flat_map, decimal, codes}
use Rattle.cs_edge.specs.{Taps.mirror_value, inner.Page.Shows}
use Rattle.cs_edge.proofs.fakes.mirror.put_mirror.Given as goal

-- the text so far: the count and the values before the index
abbrev pub invariant-loop-z : goal.invariant-loop-z
invariant-loop-z l =
    Shows l.used l.out ((codes "mirror " ++ decimal l.count) ++ flat_map mirror_value (take l.z-index l.kept))
