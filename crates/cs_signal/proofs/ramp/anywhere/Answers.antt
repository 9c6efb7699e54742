use Rattle.std.proofs.Common.{length, refl, arith}
use Rattle.cs_signal.proofs.Ramps.{HasRamped_none, HasRamped_more, HasRamped_all}
use Rattle.cs_signal.proofs.ramp.anywhere.Goals as goal

pub loop-j-init : goal.loop-j-init
loop-j-init c =
    let bound = c.part_of-at.ensures.bounded in
    HasRamped_none c.args.from c.args.to c.args.n c.args.d (length c.args.out.now) c.part_of-at.result.whole
    c.part_of-at.result.rest c.args.out.now refl c.part_of-at.ensures.parts (omega arith)

pub value_at-requires : goal.value_at-requires
value_at-requires c = let bound = c.loop-j.invariant.bound in let inside = c.loop-j-test.true in omega arith

pub advanced-at-requires-clause-at : goal.advanced-at-requires-clause-at
advanced-at-requires-clause-at c = c.loop-j.invariant.parts.below

pub advanced-at-requires-clause-far : goal.advanced-at-requires-clause-far
advanced-at-requires-clause-far c = let bound = c.loop-j.invariant.bound in let inside =
    c.loop-j-test.true in omega arith

pub loop-j-preserved : goal.loop-j-preserved
loop-j-preserved c =
    HasRamped_more c.args.from c.args.to c.args.n c.args.d (length c.args.out.now) c.loop-j.j c.loop-j.at.whole
    c.advanced-at.result.whole c.rise_of-step.result.whole
    c.loop-j.at.rest c.advanced-at.result.rest c.rise_of-step.result.rest c.loop-j.out c.value_at.result
    c.loop-j.invariant c.loop-j-test.true c.rise_of-step.ensures.parts c.value_at.ensures c.advanced-at.ensures.sum
    c.advanced-at.ensures.bounded

pub returns : goal.returns
returns c =
    HasRamped_all c.args.from c.args.to c.args.n c.args.d (length c.args.out.now) c.loop-j.j c.loop-j.at.whole
    c.loop-j.at.rest c.loop-j.out c.loop-j.invariant c.loop-j-test.false c.loop-j.auto.j-end
