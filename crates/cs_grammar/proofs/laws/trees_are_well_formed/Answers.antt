use Rattle.cs_grammar.proofs.TreeLaws.{tree_is_well_formed, tree_in_order}
use Rattle.cs_grammar.proofs.laws.trees_are_well_formed.Goals as goal

pub returns-clause-well_formed : goal.returns-clause-well_formed
returns-clause-well_formed c = tree_is_well_formed

pub returns-clause-in_order : goal.returns-clause-in_order
returns-clause-in_order c text tokens orc lexed tree =
    let last = c.tokens_stand_in_the_text.ensures.last text tokens lexed in
    tree_in_order text tokens last.0 _ orc (c.tokens_stand_in_the_text.ensures.ascending text tokens lexed)
    (c.tokens_stand_in_the_text.ensures.new_lines text tokens lexed) last.1 last.2 lexed tree
