use Rattle.std.proofs.Common.{Ok, Err, ap}
use Rattle.cs_compile.specs.Meaning.{HasTokens, HasTree, IsReadAs}
use Rattle.cs_compile.proofs.{Chains.goes_on, Chains.refuses, Told.told}
use Rattle.cs_base.specs.declared.refusal.Refusal.TheVariants as why
use Rattle.cs_grammar.specs.Tree as tree
use Rattle.cs_compile.proofs.orchestra.read_tree.Goals as goal

pub returns-in_err-tokens-clause-refused : goal.returns-in_err-tokens-clause-refused
returns-in_err-tokens-clause-refused c =
    let text = c.args.text.now in
    told why.Orc (λ w. IsReadAs text (Err w)) c.from_residual.result c.in_err-tokens.field-0.0 c.from_residual.ensures.1
    (λ f is. refuses (HasTokens text) (HasTree text) (why.Orc f)
    (c.in_err-tokens.ensures.fault f (ap (λ (z : _). Err z) is)))

pub returns-in_err-tree-clause-refused : goal.returns-in_err-tree-clause-refused
returns-in_err-tree-clause-refused c =
    let text = c.args.text.now in
    told why.Orc (λ w. IsReadAs text (Err w)) c.from_residual-in_err-tree.result c.in_err-tree.field-0.0
    c.from_residual-in_err-tree.ensures.1
    (λ f is. goes_on (HasTokens text) (HasTree text) c.in_ok-tokens.tokens (Err (why.Orc f))
    c.in_ok-tokens.ensures.tokens
    (c.in_err-tree.ensures.fault f (ap (λ (z : _). Err z) is)))

pub returns-clause-tree : goal.returns-clause-tree
returns-clause-tree c =
    goes_on (HasTokens c.args.text.now) (HasTree c.args.text.now) c.in_ok-tokens.tokens
    (Ok (tree.orchestra c.in_ok-tree.tree)) c.in_ok-tokens.ensures.tokens
    c.in_ok-tree.ensures.tree

pub returns-clause-well_formed : goal.returns-clause-well_formed
returns-clause-well_formed c =
    c.trees_are_well_formed.ensures.well_formed c.args.text.now c.in_ok-tokens.tokens (tree.orchestra c.in_ok-tree.tree)
    c.in_ok-tokens.ensures.tokens
    c.in_ok-tree.ensures.tree
