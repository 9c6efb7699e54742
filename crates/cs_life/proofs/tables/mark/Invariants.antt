use Rattle.std.proofs.Common.{◌≡◌, length, take}
use Rattle.cs_life.specs.inner.Marks.{marked}
use Rattle.cs_life.proofs.tables.mark.Given as goal

abbrev pub invariant-loop-place : goal.invariant-loop-place
invariant-loop-place l =
    (l.flags.items ≡ marked l.number (take l.place l.tables) l.initial.flags.items)
    × (length l.flags.items ≡ length l.tables)
