use Rattle.cs_grammar.proofs.OrcRules.{failed_orc, orc_begun, orc_read}
use Rattle.cs_grammar.proofs.parser.Parser.orc.Goals as goal
use Rattle.cs_grammar.specs.Tree.{orchestra}

pub returns-in_err-add_items : goal.returns-in_err-add_items
returns-in_err-add_items c =
    failed_orc (Unit {0}) _ _ _ _ _ c.from_residual.ensures.1 (c.in_err-add_items.ensures.reads c.args.self.now
    (rw (c.new-draft.ensures.orc, c.new-draft.ensures.defined, c.new-draft.ensures.given) (orc_begun c.args.self.now)))

pub returns : goal.returns
returns c =
    (orc_read c.args.self.now _ (orchestra c.add_items.new.draft.orc) _ _
    (c.in_ok-add_items.ensures.reads c.args.self.now
    (rw (c.new-draft.ensures.orc, c.new-draft.ensures.defined, c.new-draft.ensures.given) (orc_begun c.args.self.now)))
    c.in_ok-add_items.ensures.end)
