use Rattle.cs_perform.proofs.Telling.{ToldFirst}
use Rattle.cs_perform.proofs.taps.tell.Given as goal

abbrev pub invariant-loop-i : goal.invariant-loop-i
invariant-loop-i g l = ToldFirst (λ b h. (goal.Tap-dyn g (b.vtable, b.value)).stands_for b.value h) l.initial.taps.items
    l.taps.items l.frames l.i
