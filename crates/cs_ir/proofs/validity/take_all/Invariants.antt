use Rattle.std.proofs.Common.{◌≡◌, ◌≤◌, drop, length}
use Rattle.std.specs.Prelude.{filter}
use Rattle.cs_words.specs.Catalogue.{is_moving}
use Rattle.cs_ir.specs.Validity.{take_all}
use Rattle.cs_ir.proofs.validity.take_all.Given as goal

abbrev pub invariant-loop-letter : goal.invariant-loop-letter
invariant-loop-letter l =
    (take_all (filter is_moving (drop l.letter-index l.letters)) l.bound (drop l.place l.from)
    ≡ take_all (filter is_moving l.letters) l.bound l.from) × (l.place ≤ length l.from)
