use Rattle.std.proofs.Common.{◌∙◌, ap, slice_set, true}
use Rattle.cs_rwset.proofs.Marking.{mark_placed, mark_unplaced}
use Rattle.cs_rwset.proofs.marks.mark_one.Goals as goal

pub returns-in-Some : goal.returns-in-Some
returns-in-Some c P e =
    ap (λ m. slice_set m c.in-Some.place true) e
    ∙ mark_placed c.args.layout.now c.args.res c.in-Some.place P c.requires.laid c.in-Some.ensures.found

pub returns-in_default : goal.returns-in_default
returns-in_default c P e = e ∙ mark_unplaced c.args.layout.now c.args.res P c.in_default.ensures.none
