use Rattle.std.proofs.Common.{refl, arith}
use Rattle.cs_perform.proofs.Telling.{told_none_first, told_one_more, told_all}
use Rattle.cs_perform.proofs.taps.tell.Goals as goal

pub loop-i-init : goal.loop-i-init
loop-i-init g c = told_none_first (λ b h. (goal.Tap-dyn g (b.vtable, b.value)).stands_for b.value h) _ _ _ refl

pub loop-i-preserved : goal.loop-i-preserved
loop-i-preserved g c =
    told_one_more (λ b h. (goal.Tap-dyn g (b.vtable, b.value)).stands_for b.value h) _ _ _ c.loop-i.i
    c.index_mut.result.now c.tell_one.new.tap
    (omega (arith, c.loop-i-test.true, c.loop-i.invariant.long)) c.index_mut.ensures.value c.tell_one.ensures
    c.loop-i.invariant

pub returns : goal.returns
returns g c = told_all (λ b h. (goal.Tap-dyn g (b.vtable, b.value)).stands_for b.value h) _ _ _ c.loop-i.i (omega arith)
    c.loop-i.invariant
