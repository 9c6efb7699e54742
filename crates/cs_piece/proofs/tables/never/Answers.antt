use Rattle.cs_piece.proofs.Marks.{all_are}
use Rattle.cs_piece.specs.declared.tables.Times.TheVariants as times
use Rattle.cs_piece.proofs.tables.never.Goals as goal

pub returns-clause-none : goal.returns-clause-none
returns-clause-none c n =
    all_are c.in_ok-vec.field-0.items c.args.count n times.Never (c.in_ok-vec.ensures.items_if_clones_equal (λ y h. h))
