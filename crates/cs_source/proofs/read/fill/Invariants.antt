use Rattle.std.proofs.Common.{◌≤◌, ◌-◌, length}
use Rattle.cs_source.specs.inner.Reading.{ReadMore}
use Rattle.cs_source.proofs.read.fill.Given as goal

-- the text has been read
abbrev pub invariant-loop-text : goal.invariant-loop-text
invariant-loop-text g l =
    (length l.text.items ≤ l.most) × ReadMore (g.F.Shelf.tells l.initial.shelf) (g.F.Shelf.tells l.shelf) l.text.items

abbrev pub decreases-loop-text : goal.decreases-loop-text
decreases-loop-text g l = l.most - length l.text.items
