use Rattle.std.proofs.Common.{◌≡◌, ◌++◌, take}
use Rattle.cs_ir.specs.{Resources.NameTheSame, Resources.Stock, Routines.library_in, Touched.named}
use Rattle.cs_ir.specs.inner.Naming.{access_of, own_touches, routines_touch}
use Rattle.cs_ir.proofs.touches.touched.Given as goal

abbrev pub invariant-loop-step : goal.invariant-loop-step
invariant-loop-step l = (stock : Stock) → named stock l.touches.items
    ≡ own_touches (access_of l.access) stock (take l.step-index l.steps)

abbrev pub invariant-loop-number : goal.invariant-loop-number
invariant-loop-number l = (stock : Stock) → NameTheSame (named stock l.touches.items)
    (named stock l.initial.touches.items
    ++ routines_touch (access_of l.access) stock (library_in l.routines) (take l.number-index l.invoked))
