use Rattle.std.proofs.Common.{◌∙◌, arith, refl, sym}
use Rattle.cs_typing.specs.{Calls.all_read_by, inner.Held.known_of, inner.Routines.knows_in}
use Rattle.cs_typing.proofs.Arguments.{all_next}
use Rattle.cs_typing.proofs.call.all_known.Goals as goal

pub loop-arg-preserved : goal.loop-arg-preserved
loop-arg-preserved c =
    all_next (all_read_by (knows_in (known_of c.args.names.now))) c.args.args.now c.loop-arg.arg-index _ _ _ _ _
    (omega arith) c.arg-item.is refl (sym c.argument_known.ensures ∙ c.if-not-argument_known.false) c.loop-arg.invariant

pub returns-then-not-argument_known : goal.returns-then-not-argument_known
returns-then-not-argument_known c =
    all_next (all_read_by (knows_in (known_of c.args.names.now))) c.args.args.now c.loop-arg.arg-index _ _ _ _ _
    (omega arith) c.arg-item.is refl (sym c.argument_known.ensures ∙ c.if-not-argument_known.true) c.loop-arg.invariant
