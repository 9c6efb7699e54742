use Rattle.std.proofs.Common.{◌∙◌, ◌+◌, ◌++◌, map, drop, arith, ap, sym}
use Rattle.std.proofs.lemmas.List.{append-nil, drop_all}
use Rattle.cs_meaning.specs.Core.{values_of}
use Rattle.cs_typed.specs.TypedTree.{argument}
use Rattle.cs_code.specs.inner.Emitted.{expressions_of}
use Rattle.cs_code.proofs.Lists.{values_more, dropped}
use Rattle.cs_code.proofs.args.values.Goals as goal

pub loop-arg-preserved : goal.loop-arg-preserved
loop-arg-preserved c =
    let i = c.loop-arg.arg-index in
    let x = c.arg-item.result in
    let args = c.args.call.now.args.now in
    values_more (map argument (drop i args)) (argument x) (map argument (drop (i + 1) args))
    (expressions_of c.loop-arg.values.items) (expressions_of c.add_value.new.values.items) _
    (ap (map argument) (dropped args i x (omega arith) c.arg-item.is)) c.in_ok-add_value.ensures c.loop-arg.invariant

pub returns : goal.returns
returns c =
    let es = expressions_of c.loop-arg.values.items in
    sym (append-nil es) ∙ ap (λ args. es ++ values_of (map argument args))
    (sym (drop_all c.loop-arg.arg-index c.args.call.now.args.now (omega (arith, c.loop-arg-test.false))))
    ∙ c.loop-arg.invariant
