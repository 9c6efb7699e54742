use Rattle.std.proofs.Common.{◌∙◌, arith, refl, sym}
use Rattle.std.specs.List.{list_all}
use Rattle.cs_typing.specs.Calls.{is_still}
use Rattle.cs_typing.proofs.Arguments.{all_next}
use Rattle.cs_typing.proofs.call.all_still.Goals as goal

pub loop-arg-preserved : goal.loop-arg-preserved
loop-arg-preserved c =
    all_next (list_all is_still) c.args.args.now c.loop-arg.arg-index _ _ _ _ _ (omega arith) c.arg-item.is refl
    (sym c.is_still.ensures ∙ c.if-not-is_still.false) c.loop-arg.invariant

pub returns-then-not-is_still : goal.returns-then-not-is_still
returns-then-not-is_still c =
    all_next (list_all is_still) c.args.args.now c.loop-arg.arg-index _ _ _ _ _ (omega arith) c.arg-item.is refl
    (sym c.is_still.ensures ∙ c.if-not-is_still.true) c.loop-arg.invariant
