use Rattle.cs_grammar.proofs.OrcRules.{failed_items}
use Rattle.cs_grammar.proofs.parser.Parser.add_items.Goals as goal

pub returns-in_err-add_item-clause-reads : goal.returns-in_err-add_item-clause-reads
returns-in_err-add_item-clause-reads c = λ first s.
    failed_items (Unit {0}) (Unit {0}) _ _ _ _ _ c.from_residual.ensures.1
    (c.in_err-add_item.ensures.reads first (c.loop-self.invariant first s))
