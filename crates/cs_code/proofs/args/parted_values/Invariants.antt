use Rattle.std.proofs.Common.{◌≡◌, ◌++◌, drop, map}
use Rattle.cs_meaning.specs.Core.{settled, moving}
use Rattle.cs_typed.specs.TypedTree.{argument}
use Rattle.cs_words.specs.Catalogue.{row_of}
use Rattle.cs_code.specs.inner.Emitted.{expressions_of}
use Rattle.cs_code.proofs.args.parted_values.Given as goal

-- the values divided so far, and the values that the rest will add
abbrev pub invariant-loop-arg : goal.invariant-loop-arg
invariant-loop-arg l =
    (l.place ≡ l.arg-index) × (expressions_of l.parted.settled.items
    ++ settled (row_of l.call.opcode) l.place (map argument (drop l.arg-index l.call.args.now))
    ≡ settled (row_of l.call.opcode) 0 (map argument l.call.args.now)) × (expressions_of l.parted.moving.items
    ++ moving (row_of l.call.opcode) l.place (map argument (drop l.arg-index l.call.args.now))
    ≡ moving (row_of l.call.opcode) 0 (map argument l.call.args.now))
