use Rattle.cs_udo.proofs.Faulted.{rule_is}
use Rattle.cs_udo.proofs.refuse.broken_rule.Goals as goal

pub returns : goal.returns
returns c = λ opcodes.
    rule_is c.args.inside c.args.results.now c.args.args.now c.args.definition.now opcodes c.are_as_many.result
    c.is_misplaced.result c.rule_of.result
    c.are_as_many.ensures c.is_misplaced.ensures c.rule_of.ensures
