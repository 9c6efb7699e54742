use Rattle.std.proofs.Common.{◌∙◌, ◌++◌, ◌∷◌, [], ap}
use Rattle.std.proofs.lemmas.List.{append_assoc}
use Rattle.cs_code.specs.inner.Code.{given_code, on_code, operands_code, target}
use Rattle.cs_code.specs.{inner.Emitted.expressions_of, inner.Emitted.when_of, inner.Spots.op_of, inner.Spots.spots}
use Rattle.cs_code.proofs.Growing.{grew_two}
use Rattle.cs_code.proofs.run.run.Goals as goal

pub returns : goal.returns
returns c =
    let when = when_of c.args.context.pass in
    let at = c.args.at in
    let k = c.args.call.now in
    let es = expressions_of c.args.values.now in
    let given = given_code k.rate k.results.now in
    record {
      ops = grew_two c.args.ops.now c.push_on.new.ops c.give.new.ops _ _ _ c.in_ok-next.ensures.ops c.in_ok-give.ensures
          (ap (λ q. on_code when at c.args.act q es ++ given) c.in_ok-into.ensures
          ∙ append_assoc (operands_code when at es 0)
          (op_of c.args.act (target k.rate k.results.now) (spots when at es 0) ∷ []) given);
      next = c.in_ok-next.ensures.next;
    }
