use Rattle.std.proofs.Common.{◌∙◌, ap, map}
use Rattle.cs_typed.specs.TypedTree as typed
use Rattle.cs_typing.specs.inner.Parts.{made_with}
use Rattle.cs_typing.proofs.Listed.{block_both}
use Rattle.cs_typing.proofs.orc.Done.add_outside.Goals as goal

pub returns : goal.returns
returns c =
    λ rs. ap (λ b. made_with b (map (typed.instrument rs) c.args.self.now.instrs.items))
    (ap (typed.block rs) c.in_ok-append.ensures.items ∙ block_both rs c.args.self.now.zero.items c.args.more.items)
