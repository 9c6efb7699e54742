use Rattle.std.proofs.Common.{eqb, sym, subst}
use Rattle.std.specs.List.{IsDistinct}
use Rattle.cs_typed.specs.TypedTree as typed
use Rattle.cs_code.proofs.Instruments.{same_numbers}
use Rattle.cs_code.proofs.orchestra.instruments_of.Goals as goal

pub of-requires : goal.of-requires
of-requires c =
    let o = typed.orchestra c.args.orc.now in
    subst (IsDistinct eqb) (sym
    (same_numbers o.spaces o.head.nchnls o.instrs c.in_ok-list.list.items c.in_ok-list.ensures)) c.requires.distinct
