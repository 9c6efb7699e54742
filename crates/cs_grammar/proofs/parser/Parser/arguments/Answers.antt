use Rattle.std.proofs.Common.{◌∙◌, Ok, sym, ap, subst, map}
use Rattle.cs_grammar.proofs.StmtRules.{args_in, weaker}
use Rattle.cs_grammar.specs.Tree.{argument}
use Rattle.cs_grammar.specs.Grammar.{ReadsArgs, ReadsList, args_none, args_some}
use Rattle.cs_grammar.specs.Kinds.{ends_line}
use Rattle.cs_grammar.specs.declared.lists.Role.TheVariants as role
use Rattle.cs_grammar.proofs.parser.Parser.arguments.Goals as goal

pub returns-then-ends_line-clause-reads : goal.returns-then-ends_line-clause-reads
returns-then-ends_line-clause-reads c =
    subst (λ xs. ReadsArgs c.args.scope.now (Ok c.args.self.now) (Ok (map argument xs, c.args.self.now)))
    (sym c.new.ensures.items)
    (args_none (ap ends_line (sym c.kind.ensures) ∙ sym c.if-ends_line.ensures))

pub returns-clause-reads : goal.returns-clause-reads
returns-clause-reads c =
    weaker args_in c.list.result c.list.new.self (ReadsList c.args.scope.now role.Argument (Ok c.args.self.now))
    (ReadsArgs c.args.scope.now (Ok c.args.self.now))
    (λ o h. args_some (ap ends_line (sym c.kind.ensures) ∙ sym c.if-ends_line.ensures) h)
    c.list.ensures.reads
