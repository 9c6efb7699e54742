use Rattle.std.proofs.Common.{arith}
use Rattle.cs_rwset.proofs.ZoneSteps.{begins_more}
use Rattle.cs_rwset.proofs.zones.begins_of.Goals as goal

pub loop-place-preserved : goal.loop-place-preserved
loop-place-preserved c = (
  begins_more c.args.outside.now c.args.each.now c.loop-place.begins.items c.push.new.self.items c.loop-place.place
      c.begins_at.result c.loop-place.invariant.0 c.in_ok-push.ensures.items c.begins_at.ensures.first
      c.begins_at.ensures.outside c.begins_at.ensures.each,
  let low = c.loop-place-test.true in omega (arith, low),
)
