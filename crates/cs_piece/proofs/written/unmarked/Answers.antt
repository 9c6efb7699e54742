use Rattle.std.proofs.Common.{false}
use Rattle.cs_piece.proofs.Marks.{all_are}
use Rattle.cs_piece.proofs.written.unmarked.Goals as goal

pub returns-clause-none : goal.returns-clause-none
returns-clause-none c n =
    all_are c.in_ok-vec.field-0.items c.args.count n false (c.in_ok-vec.ensures.items_if_clones_equal (λ y h. h))
