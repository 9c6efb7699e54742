use Rattle.std.proofs.Common.{◌≡◌, true, false, arith}
use Rattle.cs_graph.proofs.CommonLemmas.{first_on, none_common, second_on}
use Rattle.cs_graph.proofs.one_chain.have_common.Goals as goal

pub loop-here-preserved-then-one-here-2 : goal.loop-here-preserved-then-one-here-2
loop-here-preserved-then-one-here-2 c =
    first_on c.args.one.now c.args.other.now c.loop-here.here c.loop-here.there c.requires.ascending.1
    (omega (arith, c.if-one-here-2.true)) c.loop-here.invariant

pub loop-here-preserved : goal.loop-here-preserved
loop-here-preserved c =
    second_on c.args.one.now c.args.other.now c.loop-here.here c.loop-here.there c.requires.ascending.0
    (omega (arith, c.if-one-here.false, c.if-one-here-2.false)) c.loop-here.invariant

pub returns-else-there-other : goal.returns-else-there-other
returns-else-there-other c = (
  λ h. absurd (let wrong : false ≡ true = h in cc),
  λ h. absurd (none_common c.args.one.now c.args.other.now c.loop-here.here c.loop-here.there
      (λ a b. omega (arith, b, c.if-there-other.false)) c.loop-here.invariant h),
)

pub returns-after-loop-here : goal.returns-after-loop-here
returns-after-loop-here c = (
  λ h. absurd (let wrong : false ≡ true = h in cc),
  λ h. absurd (none_common c.args.one.now c.args.other.now c.loop-here.here c.loop-here.there
      (λ a b. omega (arith, a, c.loop-here-test.false)) c.loop-here.invariant h),
)
