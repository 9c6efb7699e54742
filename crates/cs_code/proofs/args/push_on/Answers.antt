use Rattle.std.proofs.Common.{◌∙◌, ◌++◌, ◌∷◌, [], ap}
use Rattle.cs_code.specs.{inner.Code.operands_code, inner.Emitted.expressions_of, inner.Emitted.when_of}
use Rattle.cs_code.specs.inner.Spots.{op_of}
use Rattle.cs_code.proofs.Growing.{grew_two}
use Rattle.cs_code.proofs.args.push_on.Goals as goal

pub returns : goal.returns
returns c =
    let when = when_of c.args.context.pass in
    let es = expressions_of c.args.values.now in
    record {
      ops = grew_two c.args.ops.now c.operands.new.ops c.push.new.ops _ _ _ c.in_ok-found.ensures.ops
          c.in_ok-push.ensures (ap (λ qs. operands_code when c.args.at es 0 ++ (op_of c.args.act c.args.into qs ∷ []))
          (c.from_vec.ensures ∙ c.in_ok-found.ensures.regs));
      next = c.in_ok-found.ensures.next;
    }
