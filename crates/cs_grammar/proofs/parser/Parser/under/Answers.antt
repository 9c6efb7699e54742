use Rattle.std.proofs.Common.{◌≡◌, List, [], Ok, Err}
use Rattle.cs_grammar.proofs.{Gives.failed, Gives.made, OrcRules.definition_reads}
use Rattle.cs_grammar.specs.{Headings.heading, Orchestra.ReadsDefinition, Tree.definition, Reading.in_definition}
use Rattle.cs_grammar.specs.{inner.Answers.inside, inner.Answers.of_inside}
use Rattle.cs_grammar.specs.Symbols.{Symbol, after, next}
use Rattle.cs_grammar.proofs.parser.Parser.under.Goals as goal

pub returns-in_err-lines-clause-reads : goal.returns-in_err-lines-clause-reads
returns-in_err-lines-clause-reads c =
    failed inside definition _ _ _ _ _ _ c.from_residual.ensures.1 c.in_err-lines.ensures
    (λ f h ts e. definition_reads c.args.defined.now ts c.args.self.now c.args.head (Err f) e
    (rw (c.in_definition.ensures, c.name.ensures) at h))

pub returns-clause-reads : goal.returns-clause-reads
returns-clause-reads c =
    made definition c.defined_as.result (of_inside c.args.head (inside c.in_ok-lines.lines)) c.lines.new.self
    (λ o. (ts : List Symbol)
    → heading (in_definition [] c.args.defined.now) (next ts).line (after ts) ≡ Ok (c.args.head, c.args.self.now)
    → ReadsDefinition c.args.defined.now ts o) c.defined_as.ensures.value c.defined_as.ensures.memory
    (λ ts e. definition_reads c.args.defined.now ts c.args.self.now c.args.head
    (Ok (inside c.in_ok-lines.lines, c.lines.new.self)) e
    (rw (c.in_definition.ensures, c.name.ensures) at c.in_ok-lines.ensures))
