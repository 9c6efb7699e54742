use Rattle.std.proofs.Common.{◌≡◌, ap}
use Rattle.cs_typed.specs.TypedTree.{expression, pair, var}
use Rattle.cs_code.specs.inner.Emitted.{value_of, when_of}
use Rattle.cs_code.proofs.{Growing.on_then, Nodes.made_pair}
use Rattle.cs_base.specs.declared.resource.Rate.TheVariants as rate
use Rattle.cs_words.specs.declared.sign.BinOp.TheVariants as op
use Rattle.cs_code.proofs.expr.made.Goals as goal

pub returns-in_ok-y-in-Mixed-clause-ops : goal.returns-in_ok-y-in-Mixed-clause-ops
returns-in_ok-y-in-Mixed-clause-ops c =
    let sum = value_of c.args.value.now in
    let x = var rate.Audio c.in-Mixed.v in
    let y = expression c.in-Mixed.e.now in
    let is : sum ≡ pair rate.Audio op.Add x y = ap value_of c.in-Mixed.is in
    let first = c.in_ok-x-in-Mixed.ensures in
    let second = c.in_ok-y-in-Mixed.ensures in
    on_then c.finish.result
    (made_pair (when_of c.args.context.pass) c.args.at c.in_ok-x-in-Mixed.x.next c.args.d c.in_ok-add-in-Mixed.field-0
    rate.Audio op.Add sum x y c.args.into c.in_ok-x-in-Mixed.x.reg c.in_ok-y-in-Mixed.y.reg c.two-from.result
    c.args.ops.now c.variable.new.ops c.operand.new.ops c.finish.new.ops is first.next c.in_ok-add-in-Mixed.ensures
    first.spot second.spot c.two-from.ensures first.ops second.ops) c.finish.ensures.ops
